-- Objects that are each once, counted against a list.
use Rattle.std.proofs.Common.{ℕ, ◌<◌, ◌≤◌, length, List, sym, ◌∙◌, ap, get_or}
use Rattle.std.proofs.lemmas.List.{get_or_default}
use Rattle.std.specs.List.{All, Contains}
use Rattle.gl_logic.specs.Different.{different}
use Rattle.gl_logic.specs.Object.{Object, nil}
use Rattle.gl_logic.specs.ObjectEq.{object_eq}
use Rattle.gl_logic.proofs.DifferentObjects.{different_contains}
use Rattle.hons_arena.specs.Held.{IsEachOnce}
use Rattle.hons_arena.proofs.Pigeonhole.{pigeonhole}

pub each_once_few : (xs all : List Object) → IsEachOnce xs → All (Contains all) xs → length xs ≤ length (different object_eq all)
each_once_few xs all once within =
    let ys : List Object = different object_eq all in
    let at : (i : ℕ) → i < length xs → Contains ys (get_or xs i nil) = λ i h. different_contains all (get_or xs i nil) (within i nil h) in
    pigeonhole (length xs) (length ys) (λ i h. (at i h).0) (λ i h. (at i h).1)
    (λ i j h k l e. once i j nil l k
    (sym (at i h).2 ∙ (ap (λ m. get_or ys m (get_or xs i nil)) e ∙ (get_or_default ys (at j k).0 (get_or xs i nil) (get_or xs j nil) (at j k).1 ∙ (at j k).2))))
