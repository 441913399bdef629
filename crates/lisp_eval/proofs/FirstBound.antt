-- Names with the integers of their terms, in front of the others.
use Rattle.std.proofs.Common.{◌≡◌, ap, sym, subst, ℕ, ◌+◌, ◌-◌, ℤ, List, [], ◌∷◌, ◌++◌, drop, slice_get, Some, Ok}
use Rattle.gl_logic.specs.Definition.{Definition}
use Rattle.gl_logic.specs.Exp.{Exp}
use Rattle.gl_logic.specs.Object.{Int}
use Rattle.gl_logic.specs.TermOf.{term_of, terms_of}
use Rattle.gl_logic.specs.declared.term.Term.{Term}
use Rattle.hons_arena.specs.Held.{Held, IsWhole}
use Rattle.lisp_eval.specs.Frameless.{BindsFound, BindsUpTo}
use Rattle.lisp_eval.specs.Directs.{GivesAtOnce}
use Rattle.lisp_eval.specs.Integers.{GivesInteger}
use Rattle.lisp_eval.specs.Narrow.{IsNarrow}
use Rattle.lisp_eval.specs.Outside.{locals_of, on_locals}
use Rattle.lisp_eval.specs.Sights.{Sees}
use Rattle.lisp_eval.specs.declared.value.Local.{Local}
use Rattle.lisp_eval.specs.declared.value.Value.TheVariants as value
use Rattle.lisp_eval.proofs.Sights.{adds_none}
use Rattle.lisp_eval.proofs.Advancing.{Told, first_left, later_bound}

-- an integer is found in any arena, to which nothing is added
integer_told : (locals : List Local) (t : Exp) (left rest : ℕ) (i x : ℤ) → x ≡ i → GivesInteger locals t left rest i → (ds : List Definition) (fs : List ℕ) (held : Held) → IsWhole held
    → Told ds fs (locals_of held.objects locals) t left held held (Ok (record { value = value.Int x; left = rest }))
integer_told locals t left rest i x same g ds fs held whole = record {
  adds = adds_none (Sees ds fs (locals_of held.objects locals) t) held whole;
  found = record {
    live = subst (λ (z : ℤ). IsNarrow (Int z)) (sym same) g.narrow;
    fewer = g.fewer;
    gives = subst (λ (z : ℤ). GivesAtOnce ds fs (locals_of held.objects locals) t (Int z) (left - rest)) (sym same) (g.gives ds fs held.objects);
  };
  lacks = λ e. absurd cc;
}

-- one more is bound
pub one_more : (locals : List Local) (names : List ℕ) (ts : List Term) (from left mid rest k : ℕ) (before middle late : List Local) → BindsUpTo (on_locals locals) names ts from left mid before middle k
    → (t : Term) → slice_get ts k ≡ Some t → (l : Local) → slice_get names k ≡ Some l.name.number → (i x : ℤ) → x ≡ i → l.value ≡ value.Int x → GivesInteger locals (term_of t) mid rest i → late ≡ middle ++ l ∷ []
    → BindsUpTo (on_locals locals) names ts from left rest before late (k + 1)
one_more locals names ts from left mid rest k before middle late first t there l name i x same is g all ds fs held new after answer whole h =
    let env = locals_of held.objects locals in
    let behind = subst (λ (ls : List Local). BindsFound ds fs env (drop (k + 1) names) (terms_of (drop (k + 1) ts)) rest held new ls after answer) all h in
    first ds fs held new after answer whole
    (later_bound ds fs env (terms_of (drop k ts)) (term_of t) (terms_of (drop (k + 1) ts)) (ap terms_of (first_left ts k t there)) mid (drop k names) held held middle
    (record { value = value.Int x; left = rest }) (integer_told locals (term_of t) mid rest i x same g ds fs held whole) l is k names (first_left names k l.name.number name) new after answer behind)
