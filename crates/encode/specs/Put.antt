-- Bytes written over others. These are definitions.
use Rattle.std.specs.Prelude.{ℕ, ◌+◌, List, ◌++◌, length, take, drop}

-- b with x from the place i on; what lies before and after is kept
unfoldable pub put : List ℕ → ℕ → List ℕ → List ℕ
put b i x = take i b ++ (x ++ drop (i + length x) b)

-- b with the n bytes from one place on standing at another too, over what stood there
unfoldable pub moved : List ℕ → ℕ → ℕ → ℕ → List ℕ
moved b from n to = put b to (take n (drop from b))
