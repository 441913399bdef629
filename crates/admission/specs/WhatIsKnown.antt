-- What the program keeps of the facts at a place.
use Rattle.std.specs.Prelude.{ℕ, Bool, ◌&&◌, ◌||◌, List}
use Rattle.std.specs.List.{list_any}
use Rattle.gl_logic.specs.Exp.{Var}
use Rattle.gl_logic.specs.RecursiveCalls.{Fact}
use Rattle.gl_logic.specs.Steps.{is_true, is_false, tells_cons, tells_positive, tells_nonzero, tells_integer, integerp_of, natp_of, less_term, zero_term, zp_gap}
use Rattle.admission.specs.declared.known.Known.{Known}
use Rattle.admission.specs.declared.known.KnownGap.{KnownGap}

-- of one variable
abbrev pub known_of : ℕ → List Fact → Known
known_of v fs = record {
  cons = list_any (tells_cons v) fs;
  positive = list_any (tells_positive v) fs;
  integerp = list_any (is_true (integerp_of v)) fs;
  above_zero = list_any (is_true (less_term zero_term (Var v))) fs;
  natp = list_any (is_true (natp_of v)) fs;
  nonzero = list_any (tells_nonzero v) fs;
}

abbrev pub with_fact : ℕ → Fact → Known → Known
with_fact v f k = record {
  cons = tells_cons v f || k.cons;
  positive = tells_positive v f || k.positive;
  integerp = is_true (integerp_of v) f || k.integerp;
  above_zero = is_true (less_term zero_term (Var v)) f || k.above_zero;
  natp = is_true (natp_of v) f || k.natp;
  nonzero = tells_nonzero v f || k.nonzero;
}

abbrev pub known_positive : Known → Bool
known_positive k = k.positive || ((k.integerp && k.above_zero) || (k.natp && k.nonzero))

-- of two
abbrev pub gap_known_of : ℕ → ℕ → List Fact → KnownGap
gap_known_of a b fs = record {
  positive = list_any (is_false (zp_gap a b)) fs;
  first_integer = list_any (tells_integer a) fs;
  second_integer = list_any (tells_integer b) fs;
  below = list_any (is_true (less_term (Var a) (Var b))) fs;
}

abbrev pub gap_with_fact : ℕ → ℕ → Fact → KnownGap → KnownGap
gap_with_fact a b f k = record {
  positive = is_false (zp_gap a b) f || k.positive;
  first_integer = tells_integer a f || k.first_integer;
  second_integer = tells_integer b f || k.second_integer;
  below = is_true (less_term (Var a) (Var b)) f || k.below;
}

abbrev pub known_gap : KnownGap → Bool
known_gap k = k.positive || (k.first_integer && (k.second_integer && k.below))
