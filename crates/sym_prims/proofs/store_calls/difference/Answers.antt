use Rattle.std.proofs.Common.{◌≡◌, ℕ, Bool, ◌&&◌, refl}
use Rattle.bfr_store.specs.Edges.{xor}
use Rattle.sym_prims.proofs.Leaving.{tells_lent}
use Rattle.sym_prims.proofs.store_calls.difference.Goals as goal

pub returns : goal.returns
returns g c =
    let old = c.args.objs.now in
    record {
      tells = tells_lent g.B.Meaning old old c.store.result.now c.differ.new.store c.differ.result (λ s a. xor (g.B.Meaning.truth_of s c.args.x a) (g.B.Meaning.truth_of s c.args.y a)) (λ a. let s = old.store in xor (g.B.Meaning.truth_of s c.args.x a) (g.B.Meaning.truth_of s c.args.y a)) refl c.store.ensures.now c.requires.whole c.differ.ensures.makes (λ a. refl);
    }
