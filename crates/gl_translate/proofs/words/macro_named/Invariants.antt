use Rattle.std.proofs.Common.{◌≡◌, drop}
use Rattle.std.specs.Prelude.{bytes_eq}
use Rattle.std.specs.List.{find}
use Rattle.gl_translate.specs.Heads.{macro_word, all_macros}
use Rattle.gl_translate.proofs.words.macro_named.Given as goal

abbrev pub invariant-loop-found : goal.invariant-loop-found
invariant-loop-found l = find (λ m. bytes_eq l.word (macro_word m)) (drop l.found-index all_macros) ≡ find (λ m. bytes_eq l.word (macro_word m)) all_macros
