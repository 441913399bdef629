-- Values of primitives on ids.
use Rattle.std.proofs.Common.{◌≡◌, ◌∙◌, sym, refl, subst, true, ℤ, Result, Ok, Err, IsErr}
use Rattle.gl_logic.specs.Object.{Object, Int}
use Rattle.gl_logic.specs.Parts.{is_cell}
use Rattle.gl_logic.specs.PrimValue.{prim_value, prim_of, integer_in}
use Rattle.gl_logic.specs.Wide.{IsWideObject}
use Rattle.gl_logic.specs.declared.prim.Primitive.{Primitive}
use Rattle.gl_logic.specs.declared.prim.Primitive.TheVariants as prim
use Rattle.hons_arena.specs.declared.id.Full.{Full}
use Rattle.hons_arena.specs.declared.id.Id.{Id}
use Rattle.hons_arena.specs.Held.{Held, Interns}
use Rattle.hons_arena.proofs.Placing.{part_self, adds_none, adds_entered}
use Rattle.int_prims.specs.Integers.{is_operation, integers_for, IsTooWide}
use Rattle.lisp_eval.specs.declared.primitives.PrimFault.{PrimFault}
use Rattle.lisp_eval.specs.declared.primitives.PrimFault.TheVariants as fault
use Rattle.lisp_eval.specs.Gives.{Gives}

-- what is no integer counts as 0
pub operation_value : (p : Primitive) (x y : Object) → is_operation p ≡ true → prim_value p (integers_for p (integer_in x) (integer_in y)) ≡ prim_of p x y
operation_value prim.BinaryPlus x y h = refl
operation_value prim.BinaryTimes x y h = refl
operation_value prim.UnaryMinus x y h = refl
operation_value prim.Floor x y h = refl
operation_value prim.Mod x y h = refl
operation_value prim.Truncate x y h = refl
operation_value prim.Rem x y h = refl
operation_value prim.Ash x y h = refl
operation_value prim.BinaryLogand x y h = refl
operation_value prim.BinaryLogior x y h = refl
operation_value prim.BinaryLogxor x y h = refl
operation_value prim.Lognot x y h = refl
operation_value prim.IntegerLength x y h = refl
operation_value _ x y h = absurd cc

pub value_of_integers : (p : Primitive) (x y : Object) (a b i : ℤ) → is_operation p ≡ true → a ≡ integer_in x → b ≡ integer_in y → prim_value p (integers_for p a b) ≡ Int i → prim_of p x y ≡ Int i
value_of_integers p x y a b i h e f g = sym (operation_value p x y h) ∙ ((λ j. prim_value p (integers_for p (sym e j) (sym f j))) ∙ g)

-- ---- an object that takes a cell is asked for
gives_cell : (old new : Held) (v : Object) (id : Id) → is_cell v ≡ true → Interns old new v (Ok id) → Gives old new v (Ok id)
gives_cell old new v id cell i = record {
  id = i.id;
  objects = adds_entered v v old.objects new.objects cell (part_self v) i.objects;
  limit = i.limit;
  wide = λ e. absurd cc;
  full = λ e. absurd cc;
  cell = λ e. cell;
  unchanged = tt;
  whole = λ w. i.whole;
}

pub gives_ok : (old new : Held) (v w : Object) (id : Id) → v ≡ w → is_cell w ≡ true → Interns old new w (Ok id) → Gives old new v (Ok id)
gives_ok old new v w id e cell i = subst (λ (z : Object). Gives old new z (Ok id)) (sym e) (gives_cell old new w id cell i)

not_wide : {P : Type 0} → fault.Full ≡ fault.Wide → P
not_wide e = absurd cc

abbrev the_answer : PrimFault → Result Id PrimFault
the_answer f = Err f

err_same : (f g : PrimFault) → the_answer f ≡ the_answer g → f ≡ g
err_same f g e = cc

gives_full : (old new : Held) (v : Object) → is_cell v ≡ true → (r : Result Id Full) (answer : Result Id PrimFault) → IsErr r → answer ≡ Err fault.Full → Interns old new v r → Gives old new v answer
gives_full old new v cell (Ok id) answer e f i = absurd cc
gives_full old new v cell (Err u) answer e f i = subst (λ (a : Result Id PrimFault). Gives old new v a) (sym f) (record {
  id = tt;
  objects = subst (λ (h : Held). Rattle.hons_arena.specs.Held.AddsCellsOf v old.objects h.objects) (sym i.unchanged) (adds_none v old.objects);
  limit = i.limit;
  wide = λ g. not_wide (err_same fault.Full fault.Wide g);
  full = λ g. i.full.0 refl;
  cell = λ g. cell;
  unchanged = i.unchanged;
  whole = λ w. i.whole;
})

pub gives_err : (old new : Held) (v w : Object) → is_cell w ≡ true → (r : Result Id Full) (answer : Result Id PrimFault) → v ≡ w → IsErr r → answer ≡ Err fault.Full → Interns old new w r → Gives old new v answer
gives_err old new v w cell r answer e h f i = subst (λ (z : Object). Gives old new z answer) (sym e) (gives_full old new w cell r answer h f i)

-- ---- an integer that leaves 128 bits
wide_object : (x : Object) → IsTooWide x → IsWideObject x
wide_object (Int z) h = h
wide_object _ h = absurd h

pub gives_wide : (held : Held) (p : Primitive) (x y : Object) (a b : ℤ) → is_operation p ≡ true → a ≡ integer_in x → b ≡ integer_in y → IsTooWide (prim_value p (integers_for p a b)) → Gives held held (prim_of p x y) (Err fault.Wide)
gives_wide held p x y a b operation e f wide =
    let is : prim_value p (integers_for p a b) ≡ prim_of p x y = (λ j. prim_value p (integers_for p (e j) (f j))) ∙ operation_value p x y operation in record {
      id = tt;
      objects = adds_none (prim_of p x y) held.objects;
      limit = refl;
      wide = λ _. wide_object (prim_of p x y) (subst IsTooWide is wide);
      full = λ g. not_wide (sym (err_same fault.Wide fault.Full g));
      cell = λ g. not_wide (sym (err_same fault.Wide fault.Full g));
      unchanged = refl;
      whole = λ w. w;
    }
