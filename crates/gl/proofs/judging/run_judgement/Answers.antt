use Rattle.std.proofs.Common.{◌≡◌, ◌⊎◌, inl, inr, sym, subst, refl, ℕ, List, Option, take}
use Rattle.gl_base.specs.Outside.{Grows}
use Rattle.gl_base.specs.declared.status.Status.{Status}
use Rattle.gl_base.specs.declared.status.Status.TheVariants as status
use Rattle.lrat_tool.specs.declared.judgement.Judgement.{Judgement}
use Rattle.lrat_tool.specs.declared.judgement.Judgement.TheVariants.{BadCnf, BadLog, Rat, NotShown, NoRefutation, Verified}
use Rattle.gl.specs.Judging.{IsSaid, WritesLine, judged_line, line_status}
use Rattle.gl.proofs.judging.run_judgement.Goals as goal

abbrev Ended : Status → Judgement → Type 0
Ended s said = (s ≡ line_status said) ⊎ (s ≡ status.WriteFault) ⊎ (s ≡ status.NoMemory)

no_read_said : (said : Judgement) → line_status said ≡ status.ReadFault → ⊥
no_read_said (BadCnf n) e = absurd cc
no_read_said (BadLog n) e = absurd cc
no_read_said (Rat n) e = absurd cc
no_read_said (NotShown n) e = absurd cc
no_read_said NoRefutation e = absurd cc
no_read_said Verified e = absurd cc

no_usage_said : (said : Judgement) → line_status said ≡ status.Usage → ⊥
no_usage_said (BadCnf n) e = absurd cc
no_usage_said (BadLog n) e = absurd cc
no_usage_said (Rat n) e = absurd cc
no_usage_said (NotShown n) e = absurd cc
no_usage_said NoRefutation e = absurd cc
no_usage_said Verified e = absurd cc

-- a run that ends so has not failed to read, and its words were no misuse
no_read : (s : Status) (said : Judgement) → Ended s said → s ≡ status.ReadFault → ⊥
no_read s said (inl h) e = no_read_said said (subst (λ t. t ≡ status.ReadFault) h e)
no_read s said (inr (inl h)) e = absurd cc
no_read s said (inr (inr h)) e = absurd cc

no_usage : (s : Status) (said : Judgement) → Ended s said → s ≡ status.Usage → ⊥
no_usage s said (inl h) e = no_usage_said said (subst (λ t. t ≡ status.Usage) h e)
no_usage s said (inr (inl h)) e = absurd cc
no_usage s said (inr (inr h)) e = absurd cc

module _ (holds : List ℕ → Option (List ℕ)) (cnf log : List ℕ) (old new : Option (List ℕ)) where
  whole : (said : Judgement) → IsSaid holds cnf log said → Grows old new (judged_line said) → WritesLine holds cnf log old new (line_status said)
  whole (BadCnf n) h g = (BadCnf n, h, g, refl)
  whole (BadLog n) h g = (BadLog n, h, g, refl)
  whole (Rat n) h g = (Rat n, h, g, refl)
  whole (NotShown n) h g = (NotShown n, h, g, refl)
  whole NoRefutation h g = (NoRefutation, h, g, refl)
  whole Verified h g = (Verified, h, g, refl)

  written : (s : Status) (said : Judgement) → IsSaid holds cnf log said → Ended s said → (s ≡ line_status said → Grows old new (judged_line said))
      → (s ≡ status.WriteFault → (n : ℕ) × Grows old new (take n (judged_line said))) → (s ≡ status.NoMemory → new ≡ old) → WritesLine holds cnf log old new s
  written s said h (inl e) line front memory = subst (WritesLine holds cnf log old new) (sym e) (whole said h (line e))
  written s said h (inr (inl e)) line front memory = subst (WritesLine holds cnf log old new) (sym e) (said, (front e).0, h, (front e).1)
  written s said h (inr (inr e)) line front memory = subst (WritesLine holds cnf log old new) (sym e) (memory e)

pub returns-in-Ok-clause-written : goal.returns-in-Ok-clause-written
returns-in-Ok-clause-written g c e =
    written (g.S.Shelf.holds c.args.shelf.now) c.args.pair.now.cnf.now c.args.pair.now.log.now (g.K.Sink.written c.args.out.now) (g.K.Sink.written c.put_judgement.new.out) c.put_judgement.result c.in-Ok.judgement
    c.in-Ok.ensures.said c.put_judgement.ensures.answer c.put_judgement.ensures.line c.put_judgement.ensures.front c.put_judgement.ensures.memory

pub returns-in-Ok-clause-read_fault : goal.returns-in-Ok-clause-read_fault
returns-in-Ok-clause-read_fault g c e = absurd (no_read c.put_judgement.result c.in-Ok.judgement c.put_judgement.ensures.answer e)

pub returns-in-Ok-clause-unwritten : goal.returns-in-Ok-clause-unwritten
returns-in-Ok-clause-unwritten g c e = absurd (no_read c.put_judgement.result c.in-Ok.judgement c.put_judgement.ensures.answer e)

pub returns-in-Ok-clause-no_usage : goal.returns-in-Ok-clause-no_usage
returns-in-Ok-clause-no_usage g c e = no_usage c.put_judgement.result c.in-Ok.judgement c.put_judgement.ensures.answer e
