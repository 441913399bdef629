use Rattle.std.proofs.Common.{inl, inr}
use Rattle.gl_decide.proofs.decide.give_up.Goals as goal

pub returns-in-Some-clause-wide : goal.returns-in-Some-clause-wide
returns-in-Some-clause-wide g c = λ _. inl c.in-Some.ensures

pub returns-in-None-clause-wide : goal.returns-in-None-clause-wide
returns-in-None-clause-wide g c = λ _. inr c.stalled.ensures
