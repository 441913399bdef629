use Rattle.std.proofs.Common.{◌≡◌, drop}
use Rattle.std.specs.Prelude.{bytes_eq}
use Rattle.std.specs.List.{find}
use Rattle.gl_logic.specs.PrimCode.{all_prims}
use Rattle.gl_translate.specs.Heads.{prim_word}
use Rattle.gl_translate.proofs.words.prim_named.Given as goal

abbrev pub invariant-loop-found : goal.invariant-loop-found
invariant-loop-found l = find (λ m. bytes_eq l.word (prim_word m)) (drop l.found-index all_prims) ≡ find (λ m. bytes_eq l.word (prim_word m)) all_prims
