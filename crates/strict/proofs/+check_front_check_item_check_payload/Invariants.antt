-- Levels fall from an item to its payload. The loop's invariant: the numbers counted and those of the rest of the payload are the payload's,
-- and there are no more items than bytes passed.
use Rattle.std.proofs.Common.{length, ◌≡◌, ◌+◌, ◌*◌, ◌≤◌}
use Rattle.rlp.specs.Bytes.{Bytes}
use Rattle.strict.specs.Steps.{row_at}
use Rattle.strict.proofs.Rules.{Rest}
use Rattle.strict.proofs.+check_front_check_item_check_payload.Given as goal

abbrev pub decreases-check_front : goal.decreases-check_front
decreases-check_front l = 3 * l.levels + 1

abbrev pub decreases-check_item : goal.decreases-check_item
decreases-check_item l = 3 * l.levels

abbrev pub decreases-check_payload : goal.decreases-check_payload
decreases-check_payload l = 3 * l.levels + 2

abbrev pub invariant-check_payload-loop-rest : goal.invariant-check_payload-loop-rest
invariant-check_payload-loop-rest l =
    record {
      well : Bytes l.rest;
      tops : l.top + length l.rest ≤ length l.bytes;
      alls : l.items + length l.rest ≤ length l.bytes;
      same : Rest l.levels l.rest l.top l.items l.depth ≡ row_at l.levels l.bytes;
    }

abbrev pub decreases-check_payload-loop-rest : goal.decreases-check_payload-loop-rest
decreases-check_payload-loop-rest l = length l.rest
