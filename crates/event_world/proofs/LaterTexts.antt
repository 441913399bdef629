-- What a form means in a later table of texts: the parts that are read of it.
use Rattle.std.proofs.Common.{◌≡◌, ◌∙◌, ap, sym, refl, subst, ℕ, zero, suc, ◌<◌, Bool, true, false, cond, not, ◌&&◌, ◌||◌, List, [], ◌∷◌, ◌++◌, map, length, Option, Some, None}
use Rattle.std.specs.Prelude.{nat_lt, bytes_eq, ◌==◌}
use Rattle.std.specs.List.{list_all, find}
use Rattle.std.specs.Option.{option_map, option_and_then, IfSome}
use Rattle.std.proofs.lemmas.List.{get_or_append_left}
use Rattle.gl_logic.specs.Every.{Every}
use Rattle.gl_logic.specs.Numbered.{IsNumbered}
use Rattle.gl_logic.specs.Object.{Object, Int, Character, Symbol, Text, Cons}
use Rattle.gl_logic.specs.WorldSeen.{WorldSeen}
use Rattle.gl_logic.specs.Wording.{text_of, spells, is_legal, is_starred, first_byte, elements, both, all_meant, is_keyword}
use Rattle.gl_logic.specs.NameSets.{are_different}
use Rattle.event_world.specs.NamesMeant.{plain_name, constant_name, is_constant_name, is_word, is_used, is_taken}
use Rattle.event_world.specs.Keywords.{keyword_of, pairs_of, value_of, is_one_of, are_options}
use Rattle.event_world.specs.PartsOf.{one_of, two_of, three_of, four_of, two_in, three_in, four_in, split_last}

-- ---- options
pub map_has : {A B : Type 0} (P : A → Type 0) (Q : B → Type 0) (f : A → B) (o : Option A) → IfSome o P → ((a : A) → P a → Q (f a)) → IfSome (option_map f o) Q
map_has P Q f None h g = tt
map_has P Q f (Some a) h g = g a h

pub then_has : {A B : Type 0} (P : A → Type 0) (Q : B → Type 0) (f : A → Option B) (o : Option A) → IfSome o P → ((a : A) → P a → IfSome (f a) Q) → IfSome (option_and_then f o) Q
then_has P Q f None h g = tt
then_has P Q f (Some a) h g = g a h

pub then_same : {A B : Type 0} (P : A → Type 0) (f g : A → Option B) (o : Option A) → IfSome o P → ((a : A) → P a → f a ≡ g a) → option_and_then f o ≡ option_and_then g o
then_same P f g None h k = refl
then_same P f g (Some a) h k = k a h

pub both_has : {A B C : Type 0} (P : A → Type 0) (Q : B → Type 0) (R : C → Type 0) (f : A → B → C) (o : Option A) (p : Option B) → IfSome o P → IfSome p Q → ((a : A) (b : B) → P a → Q b → R (f a b)) → IfSome (both f o p) R
both_has P Q R f (Some a) (Some b) h k g = g a b h k
both_has P Q R f (Some a) None h k g = tt
both_has P Q R f None (Some b) h k g = tt
both_has P Q R f None None h k g = tt

pub cond_has : {A : Type 0} (P : A → Type 0) (b : Bool) (o p : Option A) → IfSome o P → IfSome p P → IfSome (cond b o p) P
cond_has P true o p h k = h
cond_has P false o p h k = k

-- ---- lists
pub all_meant_same : {A B : Type 0} (P : A → Type 0) (f g : A → Option B) (xs : List A) → Every P xs → ((a : A) → P a → f a ≡ g a) → all_meant f xs ≡ all_meant g xs
all_meant_same P f g [] h k = refl
all_meant_same P f g (x ∷ xs) h k = λ i. both (λ y ys. y ∷ ys) (k x h.0 i) (all_meant_same P f g xs h.1 k i)

pub all_meant_has : {A B : Type 0} (P : A → Type 0) (Q : B → Type 0) (f : A → Option B) (xs : List A) → Every P xs → ((a : A) → P a → IfSome (f a) Q) → IfSome (all_meant f xs) (Every Q)
all_meant_has P Q f [] h k = tt
all_meant_has P Q f (x ∷ xs) h k = both_has Q (Every Q) (Every Q) (λ y ys. y ∷ ys) (f x) (all_meant f xs) (k x h.0) (all_meant_has P Q f xs h.1 k) (λ y ys a b. (a, b))

pub all_same : {A : Type 0} (P : A → Type 0) (f g : A → Bool) (xs : List A) → Every P xs → ((a : A) → P a → f a ≡ g a) → list_all f xs ≡ list_all g xs
all_same P f g [] h k = refl
all_same P f g (x ∷ xs) h k = λ i. k x h.0 i && all_same P f g xs h.1 k i

pub every_append : {A : Type 0} (P : A → Type 0) (xs ys : List A) → Every P xs → Every P ys → Every P (xs ++ ys)
every_append P [] ys h k = k
every_append P (x ∷ xs) ys h k = (h.0, every_append P xs ys h.1 k)

-- ---- elements of lists of so many, and the last
module _ (P : Object → Type 0) where
  pub one_has : (xs : List Object) → Every P xs → IfSome (one_of xs) P
  one_has [] h = tt
  one_has (a ∷ []) h = h.0
  one_has (a ∷ b ∷ cs) h = tt

  pub two_has : (xs : List Object) → Every P xs → IfSome (two_of xs) (λ p. P p.0 × P p.1)
  two_has [] h = tt
  two_has (a ∷ []) h = tt
  two_has (a ∷ b ∷ []) h = (h.0, h.1.0)
  two_has (a ∷ b ∷ c ∷ ds) h = tt

  pub three_has : (xs : List Object) → Every P xs → IfSome (three_of xs) (λ p. P p.0 × P p.1 × P p.2)
  three_has [] h = tt
  three_has (a ∷ []) h = tt
  three_has (a ∷ b ∷ []) h = tt
  three_has (a ∷ b ∷ c ∷ []) h = (h.0, h.1.0, h.1.1.0)
  three_has (a ∷ b ∷ c ∷ d ∷ es) h = tt

  pub four_has : (xs : List Object) → Every P xs → IfSome (four_of xs) (λ p. P p.0 × P p.1 × P p.2 × P p.3)
  four_has [] h = tt
  four_has (a ∷ []) h = tt
  four_has (a ∷ b ∷ []) h = tt
  four_has (a ∷ b ∷ c ∷ []) h = tt
  four_has (a ∷ b ∷ c ∷ d ∷ []) h = (h.0, h.1.0, h.1.1.0, h.1.1.1.0)
  four_has (a ∷ b ∷ c ∷ d ∷ e ∷ fs) h = tt

  pub split_has : (xs : List Object) → Every P xs → IfSome (split_last xs) (λ p. Every P p.0 × P p.1)
  split_has [] h = tt
  split_has (x ∷ []) h = (tt, h.0)
  split_has (x ∷ y ∷ ys) h = map_has (λ p. Every P p.0 × P p.1) (λ p. Every P p.0 × P p.1) (λ p. (x ∷ p.0, p.1)) (split_last (y ∷ ys)) (split_has (y ∷ ys) h.1) (λ p k. ((h.0, k.0), k.1))

-- ---- texts
module _ (names more : List (List ℕ)) where
  abbrev pub Known : Object → Type 0
  Known x = IsNumbered (length names) x

  abbrev pub IsKnown : ℕ → Type 0
  IsKnown t = t < length names

  abbrev pub later : List (List ℕ)
  later = names ++ more

  pub text_same : (t : ℕ) → IsKnown t → text_of later t ≡ text_of names t
  text_same t l = get_or_append_left names more [] t l

  pub spells_same : (word : List ℕ) (x : Object) → Known x → spells later word x ≡ spells names word x
  spells_same word (Int z) h = refl
  spells_same word (Character n) h = refl
  spells_same word (Symbol t) h = ap (λ w. bytes_eq w word) (text_same t h)
  spells_same word (Text t) h = refl
  spells_same word (Cons a d) h = refl

  abbrev legal_by : ℕ → List ℕ → Bool
  legal_by t text = not (nat_lt t 4) && (not (first_byte text == 58) && not (is_starred text))

  pub legal_same : (t : ℕ) → IsKnown t → is_legal later t ≡ is_legal names t
  legal_same t l = ap (legal_by t) (text_same t l)

  pub elements_known : (x : Object) → Known x → IfSome (elements x) (Every Known)
  elements_known (Int z) h = tt
  elements_known (Character n) h = tt
  elements_known (Symbol zero) h = tt
  elements_known (Symbol (suc t)) h = tt
  elements_known (Text t) h = tt
  elements_known (Cons a d) h = map_has (Every Known) (Every Known) (λ xs. a ∷ xs) (elements d) (elements_known d h.1) (λ xs k. (h.0, k))

  pub two_in_known : (x : Object) → Known x → IfSome (two_in x) (λ p. Known p.0 × Known p.1)
  two_in_known x h = then_has (Every Known) (λ p. Known p.0 × Known p.1) two_of (elements x) (elements_known x h) (two_has Known)

  pub three_in_known : (x : Object) → Known x → IfSome (three_in x) (λ p. Known p.0 × Known p.1 × Known p.2)
  three_in_known x h = then_has (Every Known) (λ p. Known p.0 × Known p.1 × Known p.2) three_of (elements x) (elements_known x h) (three_has Known)

  pub four_in_known : (x : Object) → Known x → IfSome (four_in x) (λ p. Known p.0 × Known p.1 × Known p.2 × Known p.3)
  four_in_known x h = then_has (Every Known) (λ p. Known p.0 × Known p.1 × Known p.2 × Known p.3) four_of (elements x) (elements_known x h) (four_has Known)

  -- ---- names
  pub plain_same : (x : Object) → Known x → plain_name later x ≡ plain_name names x
  plain_same (Int z) h = refl
  plain_same (Character n) h = refl
  plain_same (Symbol t) h = ap (λ b. cond b (Some t) None) (legal_same t h)
  plain_same (Text t) h = refl
  plain_same (Cons a d) h = refl

  pub plain_known : (x : Object) → Known x → IfSome (plain_name names x) IsKnown
  plain_known (Int z) h = tt
  plain_known (Character n) h = tt
  plain_known (Symbol t) h = cond_has IsKnown (is_legal names t) (Some t) None h tt
  plain_known (Text t) h = tt
  plain_known (Cons a d) h = tt

  pub constant_same : (x : Object) → Known x → constant_name later x ≡ constant_name names x
  constant_same (Int z) h = refl
  constant_same (Character n) h = refl
  constant_same (Symbol t) h = ap (λ w. cond (is_constant_name w) (Some t) None) (text_same t h)
  constant_same (Text t) h = refl
  constant_same (Cons a d) h = refl

  pub constant_known : (x : Object) → Known x → IfSome (constant_name names x) IsKnown
  constant_known (Int z) h = tt
  constant_known (Character n) h = tt
  constant_known (Symbol t) h = cond_has IsKnown (is_constant_name (text_of names t)) (Some t) None h tt
  constant_known (Text t) h = tt
  constant_known (Cons a d) h = tt

  pub taken_same : (w : WorldSeen) (t : ℕ) → IsKnown t → is_taken later w t ≡ is_taken names w t
  taken_same w t l = ap (λ text. is_word text || is_used w t) (text_same t l)

  -- ---- keywords
  abbrev pub PairKnown : ℕ × Object → Type 0
  PairKnown p = IsKnown p.0 × Known p.1

  keyword_same : (x : Object) → Known x → keyword_of later x ≡ keyword_of names x
  keyword_same (Int z) h = refl
  keyword_same (Character n) h = refl
  keyword_same (Symbol t) h = ap (λ w. cond (first_byte w == 58) (Some t) None) (text_same t h)
  keyword_same (Text t) h = refl
  keyword_same (Cons a d) h = refl

  keyword_known : (x : Object) → Known x → IfSome (keyword_of names x) IsKnown
  keyword_known (Int z) h = tt
  keyword_known (Character n) h = tt
  keyword_known (Symbol t) h = cond_has IsKnown (is_keyword names t) (Some t) None h tt
  keyword_known (Text t) h = tt
  keyword_known (Cons a d) h = tt

  pub pairs_same : (xs : List Object) → Every Known xs → pairs_of later xs ≡ pairs_of names xs
  pairs_same [] h = refl
  pairs_same (k ∷ []) h = refl
  pairs_same (k ∷ v ∷ rest) h = λ i. both (λ t ps. (t, v) ∷ ps) (keyword_same k h.0 i) (pairs_same rest h.1.1 i)

  pub pairs_known : (xs : List Object) → Every Known xs → IfSome (pairs_of names xs) (Every PairKnown)
  pairs_known [] h = tt
  pairs_known (k ∷ []) h = tt
  pairs_known (k ∷ v ∷ rest) h =
      both_has IsKnown (Every PairKnown) (Every PairKnown) (λ t ps. (t, v) ∷ ps) (keyword_of names k) (pairs_of names rest) (keyword_known k h.0) (pairs_known rest h.1.1) (λ t ps a b. ((a, h.1.0), b))

  abbrev finds : List ℕ → ℕ × Object → Option Object → Bool → Option Object
  finds text p rest b = cond b (Some p.1) rest

  map_cond : (b : Bool) (p : ℕ × Object) (o : Option (ℕ × Object)) → option_map (λ (q : ℕ × Object). q.1) (cond b (Some p) o) ≡ cond b (Some p.1) (option_map (λ (q : ℕ × Object). q.1) o)
  map_cond true p o = refl
  map_cond false p o = refl

  pub value_same : (text : List ℕ) (ps : List (ℕ × Object)) → Every PairKnown ps → value_of later text ps ≡ value_of names text ps
  value_same text [] h = refl
  value_same text (p ∷ ps) h =
      map_cond (bytes_eq (text_of later p.0) text) p (find (λ q. bytes_eq (text_of later q.0) text) ps)
      ∙ ((λ i. cond (bytes_eq (text_same p.0 h.0.0 i) text) (Some p.1) (value_same text ps h.1 i))
      ∙ sym (map_cond (bytes_eq (text_of names p.0) text) p (find (λ q. bytes_eq (text_of names q.0) text) ps)))

  pub value_known : (text : List ℕ) (ps : List (ℕ × Object)) → Every PairKnown ps → IfSome (value_of names text ps) Known
  value_known text [] h = tt
  value_known text (p ∷ ps) h = subst (λ (o : Option Object). IfSome o Known) (sym (map_cond (bytes_eq (text_of names p.0) text) p (find (λ q. bytes_eq (text_of names q.0) text) ps))) (cond_has Known (bytes_eq (text_of names p.0) text) (Some p.1) (value_of names text ps) h.0.1 (value_known text ps h.1))

  pub options_same : (texts : List (List ℕ)) (ps : List (ℕ × Object)) → Every PairKnown ps → are_options later texts ps ≡ are_options names texts ps
  options_same texts ps h = ap (λ b. b && are_different (map (λ p. p.0) ps)) (all_same PairKnown (λ p. is_one_of texts (text_of later p.0)) (λ p. is_one_of texts (text_of names p.0)) ps h (λ p k. ap (is_one_of texts) (text_same p.0 k.0)))
