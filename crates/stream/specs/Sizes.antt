-- `len`, `estimate_size` and `append_raw_checked`: docs/RULES.md, "Encoder and stream". These are definitions.
use Rattle.std.specs.Prelude.{ℕ, ◌+◌, ◌-◌, Bool, false, cond, List, [], ◌∷◌, length, ◌==◌, nat_lt, Ok, Err}
use Rattle.rlp.specs.Refusals.{Or}
use Rattle.rlp.specs.Bytes.{be}
use Rattle.stream.specs.declared.Stream.{Stream}
use Rattle.stream.specs.State.{Open, State, state_of, total}
use Rattle.stream.specs.Stream.{raw, guarded, After, called}

-- the bytes that a number of bytes takes, where it is more than 55
unfoldable pub growth : ℕ → ℕ
growth n = cond (nat_lt n 56) 0 (length (be n))

-- "for each open list with more than 55 bytes after its reserved byte, the bytes that number takes", with so many bytes written
unfoldable pub growths : ℕ → List Open → ℕ
growths written [] = 0
growths written (o ∷ os) = growth (written - o.position) + growths written os

-- "the written total plus" these. This is the rule, and the Rust crate's. It is not the size if all lists closed now: a header that
-- grows inside makes the outer payload longer, which the rule does not see
unfoldable pub size_now : List Open → ℕ → ℕ
size_now os written = written + growths written os

-- with n bytes more; 12 too for an n over the limit
unfoldable pub estimate_of : State → ℕ → ℕ → Or ℕ
estimate_of s room n = guarded s room n (Ok (size_now s.opens (total s + n)))

unfoldable pub len_of : State → ℕ → Or ℕ
len_of s room = guarded s room 0 (Ok (size_now s.opens (total s)))

-- whether that is 0
unfoldable pub empty_of : State → ℕ → Or Bool
empty_of s room = guarded s room 0 (Ok (size_now s.opens (total s) == 0))

-- "`append_raw_checked` answers no right after 20, changing nothing, where the estimate passes its maximum"
unfoldable pub unless_over : Stream → List ℕ → List ℕ → ℕ → Or ℕ → ℕ → After
unless_over s b x n (Err e) most = record { answer = Err e; stream = s; buffer = b }
unless_over s b x n (Ok size) most = cond (nat_lt most size) (record { answer = Ok false; stream = s; buffer = b }) (called s b (raw x n))

unfoldable pub checked : Stream → List ℕ → List ℕ → ℕ → ℕ → After
checked s b x n most = unless_over s b x n (estimate_of (state_of s) (length b) (length x)) most
