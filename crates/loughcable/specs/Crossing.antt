-- The stream's state in numbers, and what a call leaves of the numbers that it is lent. These are definitions.
use Rattle.std.specs.Prelude.{◌≡◌, ℕ, ◌+◌, Bool, true, cond, ◌&&◌, List, [], ◌∷◌, ◌++◌, leb, eqb, length, take, drop, get_or, Ok, Err}
use Rattle.rlp.specs.declared.Refusal.{Refusal}
use Rattle.rlp.specs.declared.Refusal.TheVariants.{TooLarge, StateMismatch}
use Rattle.rlp.specs.Refusals.{Or, unless}
use Rattle.rlp.specs.Limits.{limit, levels}
use Rattle.stream.specs.declared.Stream.{Stream}
use Rattle.stream.specs.State.{State, state_of}
use Rattle.stream.specs.Stream.{new_of, Call, begin, lent, After, called}
use Rattle.stream.specs.Sizes.{checked}
use Rattle.loughcable.specs.declared.Answer.{Answer}
use Rattle.loughcable.specs.Answers.{answered, asked}

-- where the three arrays stand, an entry for each level, after start, end and how many lists are open; and how many numbers a state is
abbrev pub positions_at : ℕ
positions_at = 3

abbrev pub currents_at : ℕ
currents_at = positions_at + levels

abbrev pub maxima_at : ℕ
maxima_at = currents_at + levels

abbrev pub size : ℕ
size = maxima_at + levels

-- the three arrays of a state have an entry for each level
abbrev pub Full : Stream → Type 0
Full s = (length s.positions ≡ levels) × (length s.currents ≡ levels) × (length s.maxima ≡ levels)

-- start, end, how many lists are open, then the three arrays
unfoldable pub laid_out : ℕ → ℕ → ℕ → List ℕ → List ℕ → List ℕ → List ℕ
laid_out start end opened positions currents maxima = start ∷ end ∷ opened ∷ (positions ++ (currents ++ maxima))

unfoldable pub numbers : Stream → List ℕ
numbers s = laid_out s.start s.end s.opened s.positions s.currents s.maxima

-- and back
unfoldable pub stream_in : List ℕ → Stream
stream_in ns =
    record {
      start = get_or ns 0 0;
      end = get_or ns 1 0;
      opened = get_or ns 2 0;
      positions = take levels (drop positions_at ns);
      currents = take levels (drop currents_at ns);
      maxima = take levels (drop maxima_at ns);
    }

unfoldable pub state_in : List ℕ → State
state_in ns = state_of (stream_in ns)

-- numbers that are not so many are no state, with a buffer of `room` bytes and n bytes lent beside it: 20, and 12 comes before it
unfoldable pub misfit : ℕ → ℕ → Refusal
misfit room n = cond (leb room limit && leb n limit) StateMismatch TooLarge

unfoldable pub fitting : {A : Type 0} → List ℕ → ℕ → ℕ → Or A → Or A
fitting ns room n o = unless (eqb (length ns) size) (misfit room n) o

-- ---- what a call leaves: its answer, the numbers, the buffer
pub record Crossed : Type 0 where
  pub answer : Answer
  pub state : List ℕ
  pub buffer : List ℕ

unfoldable pub leaves : Answer → List ℕ → List ℕ → Crossed
leaves r ns b = record { answer = r; state = ns; buffer = b }

-- the numbers then: those handed in where the call is refused, else those of the state that it leaves
unfoldable pub numbers_after : List ℕ → Stream → Or Bool → List ℕ
numbers_after ns s (Err e) = ns
numbers_after ns s (Ok t) = numbers s

unfoldable pub in_numbers : List ℕ → After → Crossed
in_numbers ns a = record { answer = asked a.answer; state = numbers_after ns a.stream a.answer; buffer = a.buffer }

-- a call with n bytes lent beside the buffer, that would leave so much of a state
unfoldable pub across : List ℕ → List ℕ → ℕ → After → Crossed
across ns b n a =
    cond (eqb (length ns) size) (in_numbers ns a) (record { answer = answered (Err (misfit (length b) n)); state = ns; buffer = b })

-- a call of the stream whose state the numbers are
unfoldable pub crossed : List ℕ → List ℕ → Call → Crossed
crossed ns b c = across ns b (length (lent c)) (called (stream_in ns) b c)

-- the same of a raw append with a maximum
unfoldable pub crossed_checked : List ℕ → List ℕ → List ℕ → ℕ → ℕ → Crossed
crossed_checked ns b x n most = across ns b (length x) (checked (stream_in ns) b x n most)

-- a new stream, and one with a list open. What the numbers were is not looked at
abbrev pub new_after : ℕ → After
new_after start = record { answer = Ok true; stream = new_of start; buffer = [] }

unfoldable pub crossed_new : List ℕ → ℕ → Crossed
crossed_new ns start = across ns [] 0 (new_after start)

unfoldable pub crossed_new_list : List ℕ → List ℕ → ℕ → ℕ → Crossed
crossed_new_list ns b start most = across ns b 0 (called (new_of start) b (begin most))
