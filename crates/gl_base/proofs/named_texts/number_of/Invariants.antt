use Rattle.std.proofs.Common.{◌≡◌, drop}
use Rattle.gl_base.specs.NamedTexts.{named, text_named}
use Rattle.gl_base.proofs.named_texts.number_of.Given as goal

abbrev pub invariant-loop-i : goal.invariant-loop-i
invariant-loop-i l = text_named (named l.texts) l.name ≡ text_named (named (drop l.i l.texts)) l.name
