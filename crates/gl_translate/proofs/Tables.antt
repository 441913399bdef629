-- The table of words, and the heads of forms as the program looks at them.
use Rattle.std.proofs.Common.{◌≡◌, ◌∙◌, ap, sym, refl, ℕ, Bool, true, false, cond, ◌||◌, List, [], ◌∷◌, map, Option, Some, None}
use Rattle.std.specs.Prelude.{codes, bytes_eq}
use Rattle.std.specs.List.{find}
use Rattle.std.specs.Option.{option_map, is_some}
use Rattle.gl_translate.specs.declared.macros.Macro.{Macro}
use Rattle.gl_logic.specs.Wording.{text_of}
use Rattle.gl_translate.specs.Setting.{Setting}
use Rattle.gl_translate.specs.Meaning.{Meaning}
use Rattle.gl_translate.specs.Parts.{Part, all_means}
use Rattle.gl_translate.specs.Macros.{SpecialForm, special_named, if_call, quote_call}
use Rattle.gl_translate.specs.Translation.{of_special, headed}
use Rattle.gl_logic.specs.PrimCode.{all_prims}
use Rattle.gl_logic.specs.declared.prim.Primitive.{Primitive}
use Rattle.gl_translate.specs.Words.{prim_named}
use Rattle.gl_translate.specs.Heads.{prim_word, macro_word, all_macros, macro_named, form_of, of_macro, head_means}

find_row : {A B : Type 0} (word : List ℕ) (f : A → List ℕ) (g : A → B) (xs : List A) → option_map (λ (e : List ℕ × B). e.1) (find (λ e. bytes_eq word e.0) (map (λ x. (f x, g x)) xs)) ≡ option_map g (find (λ x. bytes_eq word (f x)) xs)
find_row {A} {B} word f g [] = refl
find_row {A} {B} word f g (x ∷ xs) = elim (bytes_eq word (f x)) as (λ b. option_map (λ (e : List ℕ × B). e.1) (cond b (Some (f x, g x)) (find (λ e. bytes_eq word e.0) (map (λ y. (f y, g y)) xs))) ≡ option_map g (cond b (Some x) (find (λ y. bytes_eq word (f y)) xs))) [
  | true ↦ refl
  | false ↦ find_row word f g xs
]

-- ---- primitives
itself : {A : Type 0} (o : Option A) → option_map (λ x. x) o ≡ o
itself None = refl
itself (Some x) = refl

pub as_prim : (word : List ℕ) (o : Option Primitive) → o ≡ find (λ p. bytes_eq word (prim_word p)) all_prims → o ≡ prim_named word
as_prim word o e = e ∙ sym (find_row word prim_word (λ p. p) all_prims ∙ itself (find (λ p. bytes_eq word (prim_word p)) all_prims))

-- ---- `if`, `quote` and each macro by its word
abbrev pub the_if : SpecialForm
the_if s ps = if_call (all_means ps)

abbrev pub the_quote : SpecialForm
the_quote s ps = quote_call ps

first_row : {A B : Type 0} (b : Bool) (e : A × B) (o : Option (A × B)) → option_map (λ (x : A × B). x.1) (cond b (Some e) o) ≡ cond b (Some e.1) (option_map (λ (x : A × B). x.1) o)
first_row true e o = refl
first_row false e o = refl

pub special_is : (word : List ℕ) → special_named word ≡ cond (bytes_eq word (codes "IF")) (Some the_if) (cond (bytes_eq word (codes "QUOTE")) (Some the_quote) (option_map form_of (macro_named word)))
special_is word =
    let rows : List (List ℕ × SpecialForm) = map (λ m. (macro_word m, form_of m)) all_macros in
    first_row (bytes_eq word (codes "IF")) (codes "IF", the_if) (cond (bytes_eq word (codes "QUOTE")) (Some (codes "QUOTE", the_quote)) (find (λ e. bytes_eq word e.0) rows))
    ∙ ap (cond (bytes_eq word (codes "IF")) (Some the_if))
    (first_row (bytes_eq word (codes "QUOTE")) (codes "QUOTE", the_quote) (find (λ e. bytes_eq word e.0) rows)
    ∙ ap (cond (bytes_eq word (codes "QUOTE")) (Some the_quote)) (find_row word macro_word form_of all_macros))

of_form : (s : Setting) (t : ℕ) (ps : List Part) (o : Option Macro) → of_special s t ps (option_map form_of o) ≡ of_macro s t ps o
of_form s t ps None = refl
of_form s t ps (Some m) = refl

of_row : (s : Setting) (t : ℕ) (ps : List Part) (b : Bool) (form : SpecialForm) (o : Option SpecialForm) → of_special s t ps (cond b (Some form) o) ≡ cond b (form s ps) (of_special s t ps o)
of_row s t ps true form o = refl
of_row s t ps false form o = refl

-- the program looks at a head as the table does
pub headed_is : (s : Setting) (t : ℕ) (ps : List Part) → headed s t ps ≡ head_means s t ps
headed_is s t ps =
    let word = text_of s.names t in
    ap (of_special s t ps) (special_is word)
    ∙ (of_row s t ps (bytes_eq word (codes "IF")) the_if (cond (bytes_eq word (codes "QUOTE")) (Some the_quote) (option_map form_of (macro_named word)))
    ∙ ap (λ (m : Meaning). cond (bytes_eq word (codes "IF")) (if_call (all_means ps)) m)
    (of_row s t ps (bytes_eq word (codes "QUOTE")) the_quote (option_map form_of (macro_named word))
    ∙ ap (λ (m : Meaning). cond (bytes_eq word (codes "QUOTE")) (quote_call ps) m) (of_form s t ps (macro_named word))))

some_form : (b c : Bool) (o : Option Macro) → is_some (cond b (Some the_if) (cond c (Some the_quote) (option_map form_of o))) ≡ (b || (c || is_some o))
some_form true c o = refl
some_form false true o = refl
some_form false false None = refl
some_form false false (Some m) = refl

pub is_special : (word : List ℕ) → is_some (special_named word) ≡ (bytes_eq word (codes "IF") || (bytes_eq word (codes "QUOTE") || is_some (macro_named word)))
is_special word = ap is_some (special_is word) ∙ some_form (bytes_eq word (codes "IF")) (bytes_eq word (codes "QUOTE")) (macro_named word)
