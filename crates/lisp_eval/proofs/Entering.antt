-- Values that enter an arena, and arenas that have grown.
use Rattle.std.proofs.Common.{◌≡◌, ◌∙◌, sym, refl, subst, ℕ, List, [], ◌∷◌, ◌++◌, length, length-append, arith, inl, inr, Result, Ok, Err, IsErr}
use Rattle.std.specs.List.{Contains}
use Rattle.std.specs.Prelude.{IsErrOf}
use Rattle.fast_alists.proofs.Agreeing.{tables_still}
use Rattle.fast_alists.specs.Tables.{Agree}
use Rattle.gl_logic.specs.Every.{Every}
use Rattle.gl_logic.specs.Object.{Object, Cons, nil}
use Rattle.hons_arena.proofs.CellsIn.{IsPart}
use Rattle.hons_arena.proofs.Placing.{part_self, adds_more, adds_weaker, adds_entered, lacks_weaker}
use Rattle.hons_arena.specs.declared.id.Full.{Full}
use Rattle.hons_arena.specs.declared.id.Id.{Id}
use Rattle.hons_arena.specs.declared.id.Id.TheVariants as id
use Rattle.hons_arena.specs.declared.id.IdKind.{IdKind}
use Rattle.hons_arena.specs.declared.id.IdKind.TheVariants as kind
use Rattle.hons_arena.specs.Held.{Held, AddsCellsOf, Interns, IsWhole, LacksCell, Places}
use Rattle.hons_arena.specs.Ids.{kind_in, number_in, object_at, IsLive, IsNumberBelow}
use Rattle.hons_arena.specs.Parts.{IsCellOf}
use Rattle.lisp_eval.specs.Answers.{HasGrown}
use Rattle.lisp_eval.specs.Attempts.{Alists, IsSeenOrNil, SeesThree, SeesAnswer, EntersThree, TablesTell, given_answer}
use Rattle.lisp_eval.specs.Directs.{scope_env, IsLiveScope}
use Rattle.lisp_eval.specs.Outside.{value_object, IsLiveValue, locals_of}
use Rattle.lisp_eval.specs.Sights.{Adds}
use Rattle.lisp_eval.specs.States.{env_of}
use Rattle.lisp_eval.specs.Within.{IsWithin}
use Rattle.lisp_eval.specs.declared.attempt.Found.{Found}
use Rattle.lisp_eval.specs.declared.attempt.Given.{Given}
use Rattle.lisp_eval.specs.declared.attempt.Ids.{Ids}
use Rattle.lisp_eval.specs.declared.attempt.Scope.{Scope}
use Rattle.lisp_eval.specs.declared.attempt.Scope.TheVariants as scope
use Rattle.lisp_eval.specs.declared.attempt.Stop.{Stop}
use Rattle.lisp_eval.specs.declared.attempt.Stop.TheVariants as stop
use Rattle.lisp_eval.specs.declared.frame.Binding.{Binding}
use Rattle.lisp_eval.specs.declared.value.Local.{Local}
use Rattle.lisp_eval.specs.declared.value.Value.{Value}
use Rattle.lisp_eval.specs.declared.value.Value.TheVariants as value
use Rattle.lisp_eval.proofs.Environments.{stays_at}
use Rattle.lisp_eval.proofs.Grown.{lacks_itself}
use Rattle.lisp_eval.proofs.Sights.{adds_on, adds_by, adds_cells}
use Rattle.lisp_eval.proofs.Within.{split, all_at}

-- ---- what is live stays so, for the same object
number_more : (objects made : List Object) (k : IdKind) (n : ℕ) → IsNumberBelow (length objects) k n → IsNumberBelow (length (objects ++ made)) k n
number_more objects made kind.Symbol n h = tt
number_more objects made kind.Text n h = tt
number_more objects made kind.Cell n h = omega (arith, h, length-append objects made)

abbrev Stays : List Object → List Object → Id → Type 0
Stays old new id = IsLive new id × (object_at new id ≡ object_at old id)

pub id_grown : (old new : List Object) → HasGrown old new → (id : Id) → IsLive old id → Stays old new id
id_grown old new g id live = subst (λ (zs : List Object). Stays old zs id) (sym g.1) (number_more old g.0 (kind_in id) (number_in id) live, stays_at old g.0 id live)

pub value_grown : (old new : List Object) → HasGrown old new → (v : Value) → IsLiveValue old v → IsLiveValue new v × (value_object new v ≡ value_object old v)
value_grown old new g (value.Int i) live = (live, refl)
value_grown old new g (value.Cell n) live = id_grown old new g (id.Cell n) live
value_grown old new g (value.Symbol t) live = (tt, refl)
value_grown old new g (value.Text t) live = (tt, refl)

pub locals_grown : (old new : List Object) → HasGrown old new → (locals : List Local) → Every (λ l. IsLiveValue old l.value) locals → Every (λ l. IsLiveValue new l.value) locals × (locals_of new locals ≡ locals_of old locals)
locals_grown old new g [] live = (tt, refl)
locals_grown old new g (l ∷ locals) live =
    let first = value_grown old new g l.value live.0 in
    let rest = locals_grown old new g locals live.1 in ((first.0, rest.0), λ i. (l.name.number, first.1 i) ∷ rest.1 i)

pub env_grown : (old new : List Object) → HasGrown old new → (env : List Binding) → Every (λ b. IsLive old b.value) env → Every (λ b. IsLive new b.value) env × (env_of new env ≡ env_of old env)
env_grown old new g [] live = (tt, refl)
env_grown old new g (b ∷ env) live =
    let first = id_grown old new g b.value live.0 in
    let rest = env_grown old new g env live.1 in ((first.0, rest.0), λ i. (b.name.number, first.1 i) ∷ rest.1 i)

pub scope_grown : (old new : List Object) → HasGrown old new → (s : Scope) → IsLiveScope old s → IsLiveScope new s × (scope_env new s ≡ scope_env old s)
scope_grown old new g (scope.Outer bindings) live = env_grown old new g bindings.now live
scope_grown old new g (scope.Inner locals) live = locals_grown old new g locals.now live

pub tables_on : (old new : List Object) → HasGrown old new → (tables : List (Id × List (Id × Id))) → Agree old tables → Agree new tables
tables_on old new g = tables_still old new (id_grown old new g)

pub grown_by : (x : Object) (old new : List Object) → AddsCellsOf x old new → HasGrown old new
grown_by x old new a = (a.made, a.is)

-- ---- a cons of two values
first_part : (a d y : Object) → IsPart y a → IsPart y (Cons a d)
first_part a d y p = inr (inl p)

rest_part : (a d y : Object) → IsPart y d → IsPart y (Cons a d)
rest_part a d y p = inr (inr p)

module _ (old : Held) (a d : Object) where
  pub first_refused : (mid : Held) (r : Result Id Full) (answer : Result Id Full) → IsErr r → IsErr answer → Places old mid a r → Places old mid (Cons a d) answer
  first_refused mid (Ok id) answer h g p = absurd cc
  first_refused mid (Err u) (Ok id) h g p = absurd cc
  first_refused mid (Err u) (Err v) h g p = record { id = tt; objects = adds_weaker a (Cons a d) old.objects mid.objects (first_part a d) p.objects; limit = p.limit; lacks = lacks_weaker mid a (Cons a d) (first_part a d) p.lacks }

  module _ (mid : Held) (first : AddsCellsOf a old.objects mid.objects) (limit : mid.limit ≡ old.limit) where
    both : (new : Held) → AddsCellsOf d mid.objects new.objects → AddsCellsOf (Cons a d) old.objects new.objects
    both new rest = adds_more (Cons a d) old.objects mid.objects new.objects (adds_weaker a (Cons a d) old.objects mid.objects (first_part a d) first) (adds_weaker d (Cons a d) mid.objects new.objects (rest_part a d) rest)

    pub rest_refused : (new : Held) (r : Result Id Full) (answer : Result Id Full) → IsErr r → IsErr answer → Places mid new d r → Places old new (Cons a d) answer
    rest_refused new (Ok id) answer h g p = absurd cc
    rest_refused new (Err u) (Ok id) h g p = absurd cc
    rest_refused new (Err u) (Err v) h g p = record { id = tt; objects = both new p.objects; limit = p.limit ∙ limit; lacks = lacks_weaker new d (Cons a d) (rest_part a d) p.lacks }

    pub cons_placed : (late new : Held) → AddsCellsOf d mid.objects late.objects → late.limit ≡ mid.limit → (answer : Result Id Full) → Interns late new (Cons a d) answer → Places old new (Cons a d) answer
    cons_placed late new rest same (Ok id) i = record {
      id = i.id;
      objects = adds_more (Cons a d) old.objects late.objects new.objects (both late rest) (adds_entered (Cons a d) (Cons a d) late.objects new.objects refl (part_self (Cons a d)) i.objects);
      limit = i.limit ∙ (same ∙ limit);
      lacks = tt;
    }
    cons_placed late new rest same (Err u) i = record {
      id = tt;
      objects = subst (λ (h : Held). AddsCellsOf (Cons a d) old.objects h.objects) (sym i.unchanged) (both late rest);
      limit = i.limit ∙ (same ∙ limit);
      lacks = subst (λ (h : Held). LacksCell h (Cons a d)) (sym i.unchanged) (lacks_itself late (Cons a d) refl (i.full.0 refl));
    }

-- ---- three values
no_cells : (y : Object) → IsCellOf y nil → ⊥
no_cells y c = omega (arith, c.1)

adds_or_nil : (sees : List Object → Type 0) (x : Object) (old new : Held) → ((seen : List Object) → sees seen → IsSeenOrNil seen x) → AddsCellsOf x old.objects new.objects → new.limit ≡ old.limit → IsWhole new → Adds sees old new
adds_or_nil sees x old new h a l whole = record {
  grown = (a.made, a.is);
  limit = l;
  whole = whole;
  within = λ seen s y c. elim (split old.objects a.made y (subst (λ (zs : List Object). Contains zs y) a.is c)) [
    | inl d ↦ inl d
    | inr d ↦ made_within x seen old.objects (h seen s) y (all_at (λ z. IsCellOf z x) a.made y a.cells d)
  ];
} where
  made_within : (x : Object) (seen start : List Object) → IsSeenOrNil seen x → (y : Object) → IsCellOf y x → IsWithin start seen y
  made_within x seen start (inl i) y c = inr (record { value = x; seen_value = i; cell = c })
  made_within x seen start (inr e) y c = absurd (no_cells y (subst (IsCellOf y) e c))

module _ (g : Given) (old : Held) where
  abbrev sees_three : List Object → Type 0
  sees_three = SeesThree old.objects g

  pub three_refused : (new : Held) (answer : Result Ids Full) → IsErr answer → Adds sees_three old new → EntersThree g old new answer
  three_refused new (Ok i) h a = absurd cc
  three_refused new (Err f) h a = record { adds = a; ids = tt }

  pub first_adds : (new : Held) → AddsCellsOf (value_object old.objects g.first) old.objects new.objects → new.limit ≡ old.limit → IsWhole new → Adds sees_three old new
  first_adds new a l whole = adds_or_nil sees_three (value_object old.objects g.first) old new (λ seen s. s.0) a l whole

  pub second_adds : (mid new : Held) → Adds sees_three old mid → IsLiveValue old.objects g.second → AddsCellsOf (value_object mid.objects g.second) mid.objects new.objects → new.limit ≡ mid.limit → IsWhole new → Adds sees_three old new
  second_adds mid new b live a l whole = adds_on sees_three old mid new b
      (adds_or_nil sees_three (value_object mid.objects g.second) mid new (λ seen s. subst (IsSeenOrNil seen) (sym (value_grown old.objects mid.objects b.grown g.second live).1) s.1.0) a l whole)

  pub third_adds : (mid new : Held) → Adds sees_three old mid → IsLiveValue old.objects g.third → AddsCellsOf (value_object mid.objects g.third) mid.objects new.objects → new.limit ≡ mid.limit → IsWhole new → Adds sees_three old new
  third_adds mid new b live a l whole = adds_on sees_three old mid new b
      (adds_or_nil sees_three (value_object mid.objects g.third) mid new (λ seen s. subst (IsSeenOrNil seen) (sym (value_grown old.objects mid.objects b.grown g.third live).1) s.1.1) a l whole)

-- ---- what tables answer
pub entered_answer : (f : ℕ) (g : Given) (old late : Held) → Adds (SeesThree old.objects g) old late → Adds (SeesAnswer old.objects f g) old late
entered_answer f g old late h = adds_by (SeesAnswer old.objects f g) (SeesThree old.objects g) old late (λ seen s. (seen, (s.0, λ x i. i))) h

module _ (f : ℕ) (g : Given) (old late : Held) (entered : Adds (SeesThree old.objects g) old late) (new : Held) (tables : Alists) (made : AddsCellsOf (given_answer old.objects f g) late.objects new.objects) (limit : new.limit ≡ late.limit) (whole : IsWhole new) (agree : Agree new.objects tables) where
  answer_adds : Adds (SeesAnswer old.objects f g) old new
  answer_adds = adds_on (SeesAnswer old.objects f g) old late new (entered_answer f g old late entered) (adds_cells (SeesAnswer old.objects f g) (given_answer old.objects f g) late new (λ seen s. s.1) made limit whole)

  pub tables_refused : (s : Stop) → (s ≡ stop.Full → ⊥) → TablesTell f g old new tables (Err s)
  tables_refused s other = record { adds = answer_adds; agree = agree; found = tt; cells = λ e. other (is_full s e) } where
    is_full : (s : Stop) → IsErrOf {T = Found} (Err s) stop.Full → s ≡ stop.Full
    is_full s e = cc

  pub tables_found : (v : Value) → IsLiveValue new.objects v → value_object new.objects v ≡ given_answer old.objects f g → TablesTell f g old new tables (Ok (record { value = v; left = g.left }))
  tables_found v live is = record { adds = answer_adds; agree = agree; found = ((live, is), refl); cells = λ e. absurd cc }
