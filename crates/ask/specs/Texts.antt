-- What is written.
use Rattle.std.specs.Prelude.{ℕ, List, ◌++◌, codes, decimal, Some, None, Option}
use Rattle.codes.specs.Page.{no_edge}
use Rattle.hex.specs.declared.error.FromHexError.{FromHexError}
use Rattle.hex.specs.declared.error.FromHexError.TheVariants.{OutOfMemory}
use Rattle.ask.specs.declared.fault.Fault.{Fault}
use Rattle.ask.specs.declared.fault.Fault.TheVariants.{Memory, Size, Reply, Key, Edge, Weight, Start, Word}

-- a number, or a point where there is none
abbrev pub text_of : Option ℕ → List ℕ
text_of (Some v) = decimal v
text_of None = codes "."

-- what is wrong with a line
abbrev pub words : Fault → List ℕ
words Memory = codes "no memory is left"
words Size = codes "the first line is the number of keys, 1 to 64"
words Reply = codes "a page is 8400, two digits for each key and eight for each pair"
words Key = codes "a key is a number below the number of keys"
words Edge = codes "an edge is a key, a key and a weight"
words Weight = codes "a weight is a number up to 4294967295, and not " ++ decimal no_edge
words Start = codes "a start is one key"
words Word = codes "a line begins with keys, edge or start"

-- why a reply is not read
abbrev pub of_hex : FromHexError → Fault
of_hex OutOfMemory = Memory
of_hex error = Reply
