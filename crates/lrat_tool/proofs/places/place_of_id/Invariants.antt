use Rattle.std.proofs.Common.{◌≤◌, ◌<◌, ◌-◌, ℕ, length, get_or}
use Rattle.lrat_tool.proofs.places.place_of_id.Given as goal

abbrev pub invariant-loop-low : goal.invariant-loop-low
invariant-loop-low l = record {
  order : l.low ≤ l.high;
  within : l.high ≤ length l.ids;
  below : (k : ℕ) → k < l.low → get_or l.ids k 0 < l.id;
  above : (k : ℕ) → l.high ≤ k → k < length l.ids → l.id ≤ get_or l.ids k 0;
}

abbrev pub decreases-loop-low : goal.decreases-loop-low
decreases-loop-low l = l.high - l.low
