-- The stalls of one answer.
use Rattle.std.proofs.Common.{◌≡◌, ◌∙◌, ap, sym, List, ◌++◌, length, arith}
use Rattle.std.proofs.lemmas.List.{take_all}
use Rattle.gl_decide.specs.Stalls.{StallSeen}
use Rattle.gl_book.specs.Stops.{KeepsFront}

-- all of them are a front of them
pub kept_whole : (stalls before after : List StallSeen) → after ≡ before ++ stalls → KeepsFront stalls before after
kept_whole stalls before after is = (length stalls, is ∙ ap (λ ss. before ++ ss) (sym (take_all (length stalls) stalls (omega arith))))
