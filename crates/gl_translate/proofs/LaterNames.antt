-- Forms in later tables of texts.
use Rattle.std.proofs.Common.{◌≡◌, ◌∙◌, ap, sym, refl, subst, ℕ, zero, suc, ◌+◌, ◌<◌, Bool, true, false, cond, not, ◌&&◌, ◌||◌, ◌++◌, eqb, List, [], ◌∷◌, map, length, get_or, Option, Some, None, arith}
use Rattle.std.specs.Prelude.{nat_lt, codes, bytes_eq, ◌==◌, Ok, Err}
use Rattle.std.specs.List.{list_any, list_all, position_or_len}
use Rattle.std.specs.Option.{option_map, IfSome}
use Rattle.std.proofs.lemmas.List.{get_or_append_left}
use Rattle.std.proofs.lemmas.List.Folds.{prefix_len-append}
use Rattle.gl_logic.specs.Every.{Every}
use Rattle.gl_logic.specs.Names.{number_of, Extends}
use Rattle.gl_logic.specs.Numbered.{IsNumbered}
use Rattle.gl_logic.specs.Named.{object_named}
use Rattle.gl_logic.specs.Object.{Object, Int, Character, Symbol, Text, Cons, nil}
use Rattle.gl_logic.specs.ObjectEq.{is_nil}
use Rattle.gl_logic.specs.PrimValue.{is_cons}
use Rattle.gl_logic.specs.Exp.{Var, Const}
use Rattle.gl_logic.specs.WorldSeen.{WorldSeen}
use Rattle.gl_logic.specs.declared.prim.Primitive.{Primitive}
use Rattle.gl_logic.specs.declared.prim.Primitive.TheVariants as prim
use Rattle.gl_translate.specs.declared.fault.TermFault.TheVariants as term_fault
use Rattle.gl_translate.specs.declared.macros.Macro.{Macro}
use Rattle.gl_translate.specs.declared.macros.Macro.TheVariants as macro
use Rattle.gl_translate.specs.declared.scope.Scope.{Scope}
use Rattle.gl_translate.specs.Setting.{Setting, unnamed}
use Rattle.gl_logic.specs.Wording.{first_byte, has_mark, is_mark, is_starred, text_of, is_keyword, is_legal, spells}
use Rattle.gl_translate.specs.Meaning.{Meaning, fault, within, constant_or, literal, symbol, if_form, let_form}
use Rattle.gl_translate.specs.Parts.{Part, Binding, all_means}
use Rattle.gl_translate.specs.Macros.{of_one, path_form, prim2, member_call, is_keyword_object, member_form, mbe_form, Choice, is_key, choice_of, choice_before, joined, matches_all, choices_of, key_test, choices_form, chosen, case_form, bound_by, all_bound, declared_in, is_declared, declare_in, is_declare, body_of, let_bound, let_parts, let_call, let_one, one_after_another, let_star_parts, let_star_call, if_call, quote_call}
use Rattle.gl_logic.specs.Wording.{elements}
use Rattle.gl_translate.specs.Words.{prim_named, is_path, letters_of}
use Rattle.gl_translate.specs.Heads.{macro_named, macro_form, of_macro, head_means}
use Rattle.gl_translate.proofs.Tables.{headed_is}
use Rattle.gl_translate.specs.Translation.{of_prim, meaning, meanings, bindings, parts, of_function, headed, head_name, list_meaning, translation, setting_of, are_in}
use Rattle.gl_translate.specs.Steps.{part_of, binding_of}

-- ---- the place of the empty name
place_append : {A : Type 0} (p : A → Bool) (xs ys : List A) → position_or_len p xs < length xs → position_or_len p (xs ++ ys) ≡ position_or_len p xs
place_append p xs ys h = grind (arith, prefix_len-append (λ x. not (p x)) xs ys, h)

found : (text : List ℕ) (names : List (List ℕ)) (n : ℕ) → number_of text names ≡ Some n → position_or_len (bytes_eq text) names < length names
found text names n h = grind (arith, h)

module _ (names more : List (List ℕ)) (constants : List (ℕ × Object)) (functions own : List (ℕ × ℕ)) (every : Bool) (named : position_or_len (bytes_eq []) names < length names) where
  abbrev old : Setting
  old = record { names = names; constants = constants; functions = functions; own = own; every = every }

  abbrev new : Setting
  new = record { names = names ++ more; constants = constants; functions = functions; own = own; every = every }

  abbrev Known : Object → Type 0
  Known x = IsNumbered (length names) x

  spelling_same : (t : ℕ) → t < length names → text_of new.names t ≡ text_of old.names t
  spelling_same t l = get_or_append_left names more [] t l

  unnamed_same : unnamed new ≡ unnamed old
  unnamed_same = place_append (bytes_eq []) names more named

  -- ---- symbols
  abbrev legal_by : ℕ → List ℕ → Bool
  legal_by t word = not (nat_lt t 4) && (not (first_byte word == 58) && not (is_starred word))

  legal_same : (t : ℕ) → t < length names → is_legal new.names t ≡ is_legal old.names t
  legal_same t l = ap (legal_by t) (spelling_same t l)

  abbrev symbol_by : ℕ → List ℕ → Meaning
  symbol_by t word = within (λ bound around. cond (nat_lt t 2 || (first_byte word == 58)) (Ok (Const (Symbol t))) (constant_or (object_named constants t) (cond (bound t || (every && legal_by t word)) (Ok (Var t)) (Err term_fault.UnboundVariable))))

  symbol_same : (t : ℕ) → t < length names → symbol new t ≡ symbol old t
  symbol_same t l = ap (symbol_by t) (spelling_same t l)

  no_name_same : symbol new (unnamed new) ≡ symbol old (unnamed old)
  no_name_same = ap (symbol new) unnamed_same ∙ symbol_same (unnamed old) named

  spells_same : (word : List ℕ) (x : Object) → Known x → spells new.names word x ≡ spells old.names word x
  spells_same word (Int z) h = refl
  spells_same word (Character n) h = refl
  spells_same word (Symbol t) h = ap (λ w. bytes_eq w word) (spelling_same t h)
  spells_same word (Text t) h = refl
  spells_same word (Cons a d) h = refl

  keyword_same : (x : Object) → Known x → is_keyword_object new x ≡ is_keyword_object old x
  keyword_same (Int z) h = refl
  keyword_same (Character n) h = refl
  keyword_same (Symbol t) h = ap (λ w. first_byte w == 58) (spelling_same t h)
  keyword_same (Text t) h = refl
  keyword_same (Cons a d) h = refl

  -- ---- parts
  abbrev PartKnown : Part → Type 0
  PartKnown p = Known p.object × IfSome p.bindings (Every (λ b. Known b.object))

  member_same : (ps : List Part) → Every PartKnown ps → member_form new ps ≡ member_form old ps
  member_same [] h = refl
  member_same (a ∷ []) h = refl
  member_same (a ∷ b ∷ []) h = refl
  member_same (a ∷ b ∷ c ∷ ps) h = ap (λ z. fault (cond z term_fault.BadUse term_fault.WrongCount)) (keyword_same c.object h.1.1.0.0)

  mbe_same : (ps : List Part) → Every PartKnown ps → mbe_form new ps ≡ mbe_form old ps
  mbe_same [] h = refl
  mbe_same (l ∷ []) h = refl
  mbe_same (l ∷ a ∷ []) h = refl
  mbe_same (l ∷ a ∷ e ∷ []) h = refl
  mbe_same (l ∷ a ∷ e ∷ b ∷ []) h =
      ap (λ z. cond (z && spells new.names (codes ":EXEC") e.object) a.means (fault term_fault.BadUse)) (spells_same (codes ":LOGIC") l.object h.0.0)
      ∙ ap (λ z. cond (spells old.names (codes ":LOGIC") l.object && z) a.means (fault term_fault.BadUse)) (spells_same (codes ":EXEC") e.object h.1.1.0.0)
  mbe_same (l ∷ a ∷ e ∷ b ∷ c ∷ ps) h = refl

  -- ---- `case`
  matches_same : (key : Object) → Known key → matches_all new key ≡ matches_all old key
  matches_same key h = ap (λ z. z || spells new.names (codes "OTHERWISE") key) (spells_same (codes "T") key h) ∙ ap (λ z. spells old.names (codes "T") key || z) (spells_same (codes "OTHERWISE") key h)

  abbrev ChoiceKnown : Choice → Type 0
  ChoiceKnown c = Known c.0

  choice_known : (x : Object) (o : Option (List Meaning)) → Known x → IfSome (choice_of x o) ChoiceKnown
  choice_known (Int z) o h = tt
  choice_known (Character n) o h = tt
  choice_known (Symbol t) o h = tt
  choice_known (Text t) o h = tt
  choice_known (Cons key rest) None h = tt
  choice_known (Cons key rest) (Some []) h = tt
  choice_known (Cons key rest) (Some (a ∷ [])) h = tt
  choice_known (Cons key rest) (Some (a ∷ v ∷ [])) h = elim (is_key key) as (λ b. IfSome {T = Choice} (cond b (Some (key, v)) None) ChoiceKnown) [ true ↦ h.0 | false ↦ tt ]
  choice_known (Cons key rest) (Some (a ∷ v ∷ w ∷ ms)) h = tt

  joined_same : (last : Bool) (o : Option Choice) (os : Option (List Choice)) → IfSome o ChoiceKnown → joined (choice_before new last) o os ≡ joined (choice_before old last) o os
  joined_same last None os h = refl
  joined_same last (Some c) None h = refl
  joined_same last (Some c) (Some cs) h = ap (λ z. cond (z && not last) None (Some (c ∷ cs))) (matches_same c.0 h)

  joined_known : (last : Bool) (o : Option Choice) (os : Option (List Choice)) → IfSome o ChoiceKnown → IfSome os (Every ChoiceKnown) → IfSome (joined (choice_before old last) o os) (Every ChoiceKnown)
  joined_known last None os h g = tt
  joined_known last (Some c) None h g = tt
  joined_known last (Some c) (Some cs) h g = elim (matches_all old c.0 && not last) as (λ b. IfSome {T = List Choice} (cond b None (Some (c ∷ cs))) (Every ChoiceKnown)) [ true ↦ tt | false ↦ (h, g) ]

  choices_known : (ps : List Part) → Every PartKnown ps → IfSome (choices_of old ps) (Every ChoiceKnown)
  choices_known [] h = tt
  choices_known (p ∷ ps) h = joined_known (length ps == 0) (choice_of p.object p.inside) (choices_of old ps) (choice_known p.object p.inside h.0.0) (choices_known ps h.1)

  choices_same : (ps : List Part) → Every PartKnown ps → choices_of new ps ≡ choices_of old ps
  choices_same [] h = refl
  choices_same (p ∷ ps) h =
      ap (joined (choice_before new (length ps == 0)) (choice_of p.object p.inside)) (choices_same ps h.1)
      ∙ joined_same (length ps == 0) (choice_of p.object p.inside) (choices_of old ps) (choice_known p.object p.inside h.0.0)

  test_same : (key : Object) → key_test new key ≡ key_test old key
  test_same key = ap (λ (m : Meaning). cond (is_cons key) (member_call old m (literal key)) (prim2 prim.Equal m (literal key))) no_name_same

  choices_form_same : (cs : List Choice) → Every ChoiceKnown cs → choices_form new cs ≡ choices_form old cs
  choices_form_same [] h = refl
  choices_form_same (c ∷ cs) h =
      ap (λ z. cond z c.1 (if_form (key_test new c.0) c.1 (choices_form new cs))) (matches_same c.0 h.0)
      ∙ (ap (λ (m : Meaning). cond (matches_all old c.0) c.1 (if_form m c.1 (choices_form new cs))) (test_same c.0)
      ∙ ap (λ (m : Meaning). cond (matches_all old c.0) c.1 (if_form (key_test old c.0) c.1 m)) (choices_form_same cs h.1))

  chosen_same : (x : Meaning) (o : Option (List Choice)) → IfSome o (Every ChoiceKnown) → chosen new x o ≡ chosen old x o
  chosen_same x None h = refl
  chosen_same x (Some cs) h = ap (λ (t : ℕ). let_form (t ∷ []) (x ∷ []) (choices_form new cs)) unnamed_same ∙ ap (let_form (unnamed old ∷ []) (x ∷ [])) (choices_form_same cs h)

  case_same : (ps : List Part) → Every PartKnown ps → case_form new ps ≡ case_form old ps
  case_same [] h = refl
  case_same (x ∷ ps) h = ap (chosen new x.means) (choices_same ps h.1) ∙ chosen_same x.means (choices_of old ps) (choices_known ps h.1)

  -- ---- `let` and `let*`
  bound_same : (x : Object) (o : Option (List Meaning)) → Known x → bound_by new x o ≡ bound_by old x o
  bound_same (Int z) o h = refl
  bound_same (Character n) o h = refl
  bound_same (Symbol t) o h = refl
  bound_same (Text t) o h = refl
  bound_same (Cons (Int z) rest) o h = refl
  bound_same (Cons (Character n) rest) o h = refl
  bound_same (Cons (Text t) rest) o h = refl
  bound_same (Cons (Cons a d) rest) o h = refl
  bound_same (Cons (Symbol v) rest) None h = refl
  bound_same (Cons (Symbol v) rest) (Some []) h = refl
  bound_same (Cons (Symbol v) rest) (Some (a ∷ [])) h = refl
  bound_same (Cons (Symbol v) rest) (Some (a ∷ e ∷ [])) h = ap (λ z. cond z (Some (v, e)) None) (legal_same v h.0)
  bound_same (Cons (Symbol v) rest) (Some (a ∷ e ∷ f ∷ ms)) h = refl

  all_bound_same : (bs : List Binding) → Every (λ b. Known b.object) bs → all_bound new bs ≡ all_bound old bs
  all_bound_same [] h = refl
  all_bound_same (b ∷ bs) h =
      ap (λ o. joined (λ p ps. Some (p ∷ ps)) o (all_bound new bs)) (bound_same b.object b.inside h.0)
      ∙ ap (joined (λ p ps. Some (p ∷ ps)) (bound_by old b.object b.inside)) (all_bound_same bs h.1)

  one_after_same : (bs : List Binding) (body : Meaning) → Every (λ b. Known b.object) bs → one_after_another new bs body ≡ one_after_another old bs body
  one_after_same [] body h = refl
  one_after_same (b ∷ bs) body h =
      ap (λ o. let_one o (one_after_another new bs body)) (bound_same b.object b.inside h.0)
      ∙ ap (let_one (bound_by old b.object b.inside)) (one_after_same bs body h.1)

  more_known : (x : Object) (o : Option (List Object)) → Known x → IfSome o (Every Known) → IfSome (option_map (λ xs. x ∷ xs) o) (Every Known)
  more_known x None h g = tt
  more_known x (Some xs) h g = (h, g)

  elements_known : (x : Object) → Known x → IfSome (elements x) (Every Known)
  elements_known (Int z) h = tt
  elements_known (Character n) h = tt
  elements_known (Symbol zero) h = tt
  elements_known (Symbol (suc t)) h = tt
  elements_known (Text t) h = tt
  elements_known (Cons a d) h = more_known a (elements d) h.0 (elements_known d h.1)

  declared_in_same : (o : Option (List Object)) → IfSome o (Every Known) → declared_in new o ≡ declared_in old o
  declared_in_same None h = refl
  declared_in_same (Some []) h = refl
  declared_in_same (Some (x ∷ xs)) h =
      ap (λ z. z || (spells new.names (codes "IGNORABLE") x || spells new.names (codes "TYPE") x)) (spells_same (codes "IGNORE") x h.0)
      ∙ (ap (λ z. spells old.names (codes "IGNORE") x || (z || spells new.names (codes "TYPE") x)) (spells_same (codes "IGNORABLE") x h.0)
      ∙ ap (λ z. spells old.names (codes "IGNORE") x || (spells old.names (codes "IGNORABLE") x || z)) (spells_same (codes "TYPE") x h.0))

  all_declared_same : (xs : List Object) → Every Known xs → list_all (is_declared new) xs ≡ list_all (is_declared old) xs
  all_declared_same [] h = refl
  all_declared_same (x ∷ xs) h = ap (λ z. z && list_all (is_declared new) xs) (declared_in_same (elements x) (elements_known x h.0)) ∙ ap (λ z. is_declared old x && z) (all_declared_same xs h.1)

  declare_in_same : (o : Option (List Object)) → IfSome o (Every Known) → declare_in new o ≡ declare_in old o
  declare_in_same None h = refl
  declare_in_same (Some []) h = refl
  declare_in_same (Some (x ∷ xs)) h =
      ap (λ z. z && list_all (is_declared new) xs) (spells_same (codes "DECLARE") x h.0)
      ∙ ap (λ z. spells old.names (codes "DECLARE") x && z) (all_declared_same xs h.1)

  body_same : (ps : List Part) → Every PartKnown ps → body_of new ps ≡ body_of old ps
  body_same [] h = refl
  body_same (b ∷ []) h = refl
  body_same (d ∷ b ∷ bs) h =
      ap (λ z. cond z (body_of new (b ∷ bs)) None) (declare_in_same (elements d.object) (elements_known d.object h.0.0))
      ∙ ap (λ o. cond (is_declare old d.object) o None) (body_same (b ∷ bs) h.1)

  let_parts_same : (o : Option (List Binding)) (b : Option Meaning) → IfSome o (Every (λ e. Known e.object)) → let_parts new o b ≡ let_parts old o b
  let_parts_same None b h = refl
  let_parts_same (Some bs) None h = refl
  let_parts_same (Some bs) (Some b) h = ap (λ o. let_bound o b) (all_bound_same bs h)

  let_same : (ps : List Part) → Every PartKnown ps → let_call new ps ≡ let_call old ps
  let_same [] h = refl
  let_same (p ∷ ps) h = ap (let_parts new p.bindings) (body_same ps h.1) ∙ let_parts_same p.bindings (body_of old ps) h.0.1

  star_parts_same : (o : Option (List Binding)) (b : Option Meaning) → IfSome o (Every (λ e. Known e.object)) → let_star_parts new o b ≡ let_star_parts old o b
  star_parts_same None b h = refl
  star_parts_same (Some bs) None h = refl
  star_parts_same (Some bs) (Some b) h = one_after_same bs b h

  star_same : (ps : List Part) → Every PartKnown ps → let_star_call new ps ≡ let_star_call old ps
  star_same [] h = refl
  star_same (p ∷ ps) h = ap (let_star_parts new p.bindings) (body_same ps h.1) ∙ star_parts_same p.bindings (body_of old ps) h.0.1

  -- ---- the table
  macro_same : (m : Macro) (ps : List Part) → Every PartKnown ps → macro_form new m ps ≡ macro_form old m ps
  macro_same macro.And ps h = refl
  macro_same macro.Or ps h = refl
  macro_same macro.Cond ps h = refl
  macro_same macro.Case ps h = case_same ps h
  macro_same macro.Let ps h = let_same ps h
  macro_same macro.LetStar ps h = star_same ps h
  macro_same macro.List ps h = refl
  macro_same macro.ListStar ps h = refl
  macro_same macro.Plus ps h = refl
  macro_same macro.Times ps h = refl
  macro_same macro.Minus ps h = refl
  macro_same macro.OneMore ps h = refl
  macro_same macro.OneLess ps h = refl
  macro_same macro.AtMost ps h = refl
  macro_same macro.Above ps h = refl
  macro_same macro.AtLeast ps h = refl
  macro_same macro.Unequal ps h = refl
  macro_same macro.Append ps h = refl
  macro_same macro.Logand ps h = refl
  macro_same macro.Logior ps h = refl
  macro_same macro.Logxor ps h = refl
  macro_same macro.Member ps h = member_same ps h
  macro_same macro.First ps h = refl
  macro_same macro.Second ps h = refl
  macro_same macro.Third ps h = refl
  macro_same macro.Fourth ps h = refl
  macro_same macro.Fifth ps h = refl
  macro_same macro.Rest ps h = refl
  macro_same macro.The ps h = refl
  macro_same macro.Mbe ps h = mbe_same ps h

  abbrev function_by : ℕ → List Part → List ℕ → Meaning
  function_by t ps word = cond (is_path word) (of_one (path_form (letters_of word)) (all_means ps)) (of_prim old t ps (prim_named word))

  of_macro_same : (t : ℕ) (ps : List Part) (o : Option Macro) → t < length names → Every PartKnown ps → of_macro new t ps o ≡ of_macro old t ps o
  of_macro_same t ps (Some m) l h = macro_same m ps h
  of_macro_same t ps None l h = ap (function_by t ps) (spelling_same t l)

  abbrev headed_by : ℕ → List Part → List ℕ → Meaning
  headed_by t ps word = cond (bytes_eq word (codes "IF")) (if_call (all_means ps)) (cond (bytes_eq word (codes "QUOTE")) (quote_call ps) (of_macro new t ps (macro_named word)))

  head_same : (t : ℕ) (ps : List Part) → t < length names → Every PartKnown ps → head_means new t ps ≡ head_means old t ps
  head_same t ps l h =
      ap (headed_by t ps) (spelling_same t l)
      ∙ ap (λ (m : Meaning). cond (bytes_eq (text_of old.names t) (codes "IF")) (if_call (all_means ps)) (cond (bytes_eq (text_of old.names t) (codes "QUOTE")) (quote_call ps) m)) (of_macro_same t ps (macro_named (text_of old.names t)) l h)

  headed_same : (t : ℕ) (ps : List Part) → t < length names → Every PartKnown ps → headed new t ps ≡ headed old t ps
  headed_same t ps l h = headed_is new t ps ∙ (head_same t ps l h ∙ sym (headed_is old t ps))

  no_list : (o : Option ℕ) → list_meaning new o None ≡ list_meaning old o None
  no_list None = refl
  no_list (Some t) = refl

  listed_same : (head : Object) (o : Option (List Part)) → Known head → IfSome o (Every PartKnown) → list_meaning new (head_name head) o ≡ list_meaning old (head_name head) o
  listed_same head None l h = no_list (head_name head)
  listed_same (Int z) (Some ps) l h = refl
  listed_same (Character n) (Some ps) l h = refl
  listed_same (Text t) (Some ps) l h = refl
  listed_same (Cons a d) (Some ps) l h = refl
  listed_same (Symbol t) (Some ps) l h = elim (is_mark t) as (λ b. list_meaning new (cond b None (Some t)) (Some ps) ≡ list_meaning old (cond b None (Some t)) (Some ps)) [ true ↦ refl | false ↦ headed_same t ps l h ]

  more_parts : (p : Part) (o : Option (List Part)) → PartKnown p → IfSome o (Every PartKnown) → IfSome (option_map (λ ps. p ∷ ps) o) (Every PartKnown)
  more_parts p None h g = tt
  more_parts p (Some ps) h g = (h, g)

  more_bindings : (b : Binding) (o : Option (List Binding)) → Known b.object → IfSome o (Every (λ e. Known e.object)) → IfSome (option_map (λ bs. b ∷ bs) o) (Every (λ e. Known e.object))
  more_bindings b None h g = tt
  more_bindings b (Some bs) h g = (h, g)

  bindings_known : (x : Object) → Known x → IfSome (bindings old x) (Every (λ e. Known e.object))
  bindings_known (Int z) h = tt
  bindings_known (Character n) h = tt
  bindings_known (Symbol zero) h = tt
  bindings_known (Symbol (suc t)) h = tt
  bindings_known (Text t) h = tt
  bindings_known (Cons a d) h = more_bindings (binding_of old a) (bindings old d) h.0 (bindings_known d h.1)

  parts_known : (x : Object) → Known x → IfSome (parts old x) (Every PartKnown)
  parts_known (Int z) h = tt
  parts_known (Character n) h = tt
  parts_known (Symbol zero) h = tt
  parts_known (Symbol (suc t)) h = tt
  parts_known (Text t) h = tt
  parts_known (Cons a d) h = more_parts (part_of old a) (parts old d) (h.0, bindings_known a h.0) (parts_known d h.1)

  mutual
    pub meaning_same : (x : Object) → Known x → meaning new x ≡ meaning old x
    meaning_same (Int z) h = refl
    meaning_same (Character n) h = refl
    meaning_same (Symbol t) h = symbol_same t h
    meaning_same (Text t) h = refl
    meaning_same (Cons a d) h = ap (list_meaning new (head_name a)) (parts_same d h.1) ∙ listed_same a (parts old d) h.0 (parts_known d h.1)

    meanings_same : (x : Object) → Known x → meanings new x ≡ meanings old x
    meanings_same (Int z) h = refl
    meanings_same (Character n) h = refl
    meanings_same (Symbol zero) h = refl
    meanings_same (Symbol (suc t)) h = refl
    meanings_same (Text t) h = refl
    meanings_same (Cons a d) h = λ i. option_map (λ ms. meaning_same a h.0 i ∷ ms) (meanings_same d h.1 i)

    bindings_same : (x : Object) → Known x → bindings new x ≡ bindings old x
    bindings_same (Int z) h = refl
    bindings_same (Character n) h = refl
    bindings_same (Symbol zero) h = refl
    bindings_same (Symbol (suc t)) h = refl
    bindings_same (Text t) h = refl
    bindings_same (Cons a d) h = λ i. option_map (λ bs. record { object = a; inside = meanings_same a h.0 i } ∷ bs) (bindings_same d h.1 i)

    parts_same : (x : Object) → Known x → parts new x ≡ parts old x
    parts_same (Int z) h = refl
    parts_same (Character n) h = refl
    parts_same (Symbol zero) h = refl
    parts_same (Symbol (suc t)) h = refl
    parts_same (Text t) h = refl
    parts_same (Cons a d) h = λ i. option_map (λ ps. record { object = a; means = meaning_same a h.0 i; inside = meanings_same a h.0 i; bindings = bindings_same a h.0 i } ∷ ps) (parts_same d h.1 i)

pub meant_later : (names later : List (List ℕ)) (n : ℕ) (world : WorldSeen) (scope : Scope) (form : Object) → number_of [] names ≡ Some n → Extends names later → IsNumbered (length names) form → translation names world scope form ≡ translation later world scope form
meant_later names later n world scope form h x k =
    let s = setting_of names world scope.every scope.own in
    sym (ap (λ (l : List (List ℕ)). translation l world scope form) x.1
    ∙ ap (λ (m : Meaning). m (are_in scope.vars) 0) (meaning_same names x.0 s.constants s.functions s.own s.every (found [] names n h) form k))
