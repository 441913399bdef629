use Rattle.std.proofs.Common.{◌≡◌, ℕ, Bool, ◌&&◌, refl}
use Rattle.bfr_store.specs.Edges.{xor}
use Rattle.sym_prims.proofs.Leaving.{tells_lent}
use Rattle.sym_prims.proofs.store_calls.conjunction.Goals as goal

pub returns : goal.returns
returns g c =
    let old = c.args.objs.now in
    record {
      tells = tells_lent g.B.Meaning old old c.store.result.now c.both.new.store c.both.result (λ s a. g.B.Meaning.truth_of s c.args.x a && g.B.Meaning.truth_of s c.args.y a) (λ a. let s = old.store in g.B.Meaning.truth_of s c.args.x a && g.B.Meaning.truth_of s c.args.y a) refl c.store.ensures.now c.requires.whole c.both.ensures.makes (λ a. refl);
    }
