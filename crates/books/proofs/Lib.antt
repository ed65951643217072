mod Seeking
