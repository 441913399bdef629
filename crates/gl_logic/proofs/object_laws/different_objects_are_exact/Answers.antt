use Rattle.gl_logic.proofs.DifferentObjects.{contains_different, different_contains, different_once}
use Rattle.gl_logic.proofs.object_laws.different_objects_are_exact.Goals as goal

pub returns : goal.returns
returns c = record { same = λ xs x. (contains_different xs x, different_contains xs x); once = different_once }
