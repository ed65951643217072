-- The lines of a text. A line ends at a line feed; a last line may have none.
use Rattle.std.specs.Prelude.{ℕ, ◌+◌, if◌then◌else◌, List, [], ◌∷◌, take, drop, ◌==◌}

-- how many bytes stand in front of the first line feed, or in all
abbrev pub feed_at : List ℕ → ℕ
feed_at [] = 0
feed_at (b ∷ bs) = if b == 10 then 0 else feed_at bs + 1

-- the first line, without its line feed
abbrev pub line_of : List ℕ → List ℕ
line_of text = take (feed_at text) text

-- what stands behind the first line and its line feed
abbrev pub behind_line : List ℕ → List ℕ
behind_line text = drop (feed_at text + 1) text
