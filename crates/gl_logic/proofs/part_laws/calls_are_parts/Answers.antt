use Rattle.gl_logic.proofs.CallsAreParts.{call_value, call_sees, call_makes, call_costs, call_costs_memoized, call_wide, call_needs}
use Rattle.gl_logic.proofs.part_laws.calls_are_parts.Goals as goal

pub returns : goal.returns
returns c = record {
  value = call_value;
  seen = call_sees;
  made = call_makes;
  cost = call_costs;
  memoized = λ ds functions. call_costs_memoized functions ds;
  wide = call_wide;
  cells = call_needs;
}
