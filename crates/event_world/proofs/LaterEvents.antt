-- What a form means as an event in a later table of texts.
use Rattle.std.proofs.Common.{◌≡◌, ◌∙◌, ap, sym, refl, ℕ, false, cond, not, ◌&&◌, ◌||◌, leb, List, [], ◌∷◌, ◌++◌, length, Option, Some, None}
use Rattle.std.specs.Prelude.{codes, bytes_eq, Ok}
use Rattle.std.specs.Option.{option_map, option_and_then, option_or, IfSome}
use Rattle.gl_logic.specs.Every.{Every}
use Rattle.gl_logic.specs.Names.{number_of, Extends}
use Rattle.gl_logic.specs.Numbered.{IsNumbered}
use Rattle.gl_logic.specs.Object.{Object, Int, Character, Symbol, Text, Cons}
use Rattle.gl_logic.specs.Exp.{Exp}
use Rattle.gl_logic.specs.Definition.{natural_measure}
use Rattle.gl_logic.specs.WorldSeen.{WorldSeen}
use Rattle.gl_logic.specs.declared.def.Natural.TheVariants as natural
use Rattle.gl_logic.specs.declared.def.Measure.{Measure}
use Rattle.gl_logic.specs.declared.def.Measure.TheVariants as measure
use Rattle.gl_translate.specs.declared.fault.TermFault.TheVariants as term_fault
use Rattle.gl_logic.specs.Wording.{spells, elements, both, all_meant}
use Rattle.shape_spec.specs.declared.theorem.Mode.{Mode}
use Rattle.event_world.specs.declared.fault.EventFault.TheVariants as code
use Rattle.event_world.specs.declared.word.EventWord.{EventWord}
use Rattle.event_world.specs.declared.word.EventWord.TheVariants as word
use Rattle.event_world.specs.EventSeen.{EventSeen, Nothing, Value, Assert, Memoize, Unmemoize, Defconst}
use Rattle.event_world.specs.Outcomes.{and_then, found_or, holds_or, of_term}
use Rattle.event_world.specs.EventForms.{event_word, word_in, redundant_by, checked, meant_behind, event_by}
use Rattle.event_world.specs.EventWords.{behind_head}
use Rattle.event_world.specs.PartsOf.{one_of, two_of, three_of, two_in, three_in, four_in, split_last}
use Rattle.event_world.specs.NamesMeant.{plain_name, constant_name, is_taken}
use Rattle.event_world.specs.Keywords.{pairs_of, value_of, are_options}
use Rattle.event_world.specs.KeywordTexts.{xargs_texts}
use Rattle.event_world.specs.MeasureMeant.{is_formal, of_formal, gap_of, of_gap, of_part, natural_meant, is_one, one_more_of, ordinal_of, measure_meant}
use Rattle.event_world.specs.Declares.{is_text, is_declare, is_ignored, declared_pairs, all_pairs, pairs_before, xargs_of, stated_of, stated_in, stated_measure}
use Rattle.event_world.specs.DefunMeant.{DefunParts, texts_in, may_stand_before, with_body, named_parts, defun_parts, checked_formals, formals_meant, body_meant, judged, definition_made, defun_meant}
use Rattle.event_world.specs.DefunForms.{defun_made}
use Rattle.event_world.specs.CliqueMeant.{headed_parts, member_parts, are_members, StatedMember, stated_member, MadeMember, made_member, owns_of, members_meant, clique_judged}
use Rattle.event_world.specs.CliqueForms.{checked_members, clique_parts, all_stated, is_new, are_new, all_made, clique_made, clique_by}
use Rattle.event_world.specs.PlainMeant.{is_string, function_named, closed_meant}
use Rattle.event_world.specs.PlainForms.{is_package, is_book, quoted_in, quoted_part, memo_by, evaluation_by, ConstantParts, constant_with, constant_in, defconst_by}
use Rattle.event_world.specs.RedundantMeant.{repeated_name, repeated_member, checked_repeated, redundant_clique}
use Rattle.event_world.specs.EventMeant.{unless_redundant, event_meant}
use Rattle.event_world.proofs.LaterTexts.{map_has, then_has, then_same, both_has, cond_has, all_meant_same, all_meant_has, all_same, every_append, one_has, two_has, three_has, split_has, Known, IsKnown, later, text_same, spells_same, elements_known, two_in_known, three_in_known, four_in_known, plain_same, plain_known, constant_same, constant_known, taken_same, PairKnown, pairs_same, pairs_known, value_same, value_known, options_same}
use Rattle.event_world.proofs.LaterTheorems.{found_same, anything, translated_same, theorem_same}
use Rattle.event_world.proofs.LaterCases.{param_same}
use Rattle.event_world.proofs.EventTables.{event_is}

module _ (names more : List (List ℕ)) (n : ℕ) (unnamed : number_of [] names ≡ Some n) (w : WorldSeen) where
  abbrev Here : Object → Type 0
  Here = Known names more

  abbrev new : List (List ℕ)
  new = later names more

  spelled : (word : List ℕ) (x : Object) → Here x → spells new word x ≡ spells names word x
  spelled = spells_same names more

  -- ---- measures
  formal_same : (k : Object) (v : ℕ) → Here k → of_formal new k v ≡ of_formal names k v
  formal_same k v h =
      λ i. cond (spelled (codes "ACL2-COUNT") k h i) (Some (natural.Count (record { number = v }))) (cond (spelled (codes "LEN") k h i) (Some (natural.Len (record { number = v }))) (cond (spelled (codes "NFIX") k h i) (Some (natural.Nat (record { number = v }))) None))

  gap_same : (formals : List Object) (k : Object) (o : Option (Object × Object × Object)) → Here k → IfSome o (λ p. Here p.0 × Here p.1 × Here p.2) → of_gap new formals k o ≡ of_gap names formals k o
  gap_same formals k None h g = refl
  gap_same formals k (Some p) h g = λ i. cond (spelled (codes "NFIX") k h i && spelled (codes "-") p.0 g.0 i) (gap_of formals p.1 p.2) None

  part_same : (formals : List Object) (k x : Object) → Here k → Here x → of_part new formals k x ≡ of_part names formals k x
  part_same formals k (Symbol v) h g = ap (λ o. cond (is_formal formals (Symbol v)) o None) (formal_same k v h)
  part_same formals k (Int z) h g = gap_same formals k (three_in (Int z)) h (three_in_known names more (Int z) g)
  part_same formals k (Character z) h g = gap_same formals k (three_in (Character z)) h (three_in_known names more (Character z) g)
  part_same formals k (Text z) h g = gap_same formals k (three_in (Text z)) h (three_in_known names more (Text z) g)
  part_same formals k (Cons a d) h g = gap_same formals k (three_in (Cons a d)) h (three_in_known names more (Cons a d) g)

  natural_at : (formals : List Object) (o : Option (Object × Object)) → IfSome o (λ p. Here p.0 × Here p.1) → option_and_then (λ p. of_part new formals p.0 p.1) o ≡ option_and_then (λ p. of_part names formals p.0 p.1) o
  natural_at formals None h = refl
  natural_at formals (Some p) h = part_same formals p.0 p.1 h.0 h.1

  natural_same : (formals : List Object) (x : Object) → Here x → natural_meant new formals x ≡ natural_meant names formals x
  natural_same formals x h = natural_at formals (two_in x) (two_in_known names more x h)

  one_more_same : (formals : List Object) (o : Option (Object × Object × Object)) → IfSome o (λ p. Here p.0 × Here p.1 × Here p.2) → one_more_of new formals o ≡ one_more_of names formals o
  one_more_same formals None h = refl
  one_more_same formals (Some p) h = λ i. cond (spelled (codes "+") p.0 h.0 i && is_one p.1) (natural_same formals p.2 h.2 i) None

  ordinal_same : (formals : List Object) (o : Option (Object × Object × Object × Object)) → IfSome o (λ p. Here p.0 × Here p.1 × Here p.2 × Here p.3) → ordinal_of new formals o ≡ ordinal_of names formals o
  ordinal_same formals None h = refl
  ordinal_same formals (Some p) h =
      λ i. cond (spelled (codes "MAKE-ORD") p.0 h.0 i && is_one p.1) (both measure.Lex (one_more_same formals (three_in p.2) (three_in_known names more p.2 h.2) i) (natural_same formals p.3 h.3 i)) None

  measure_same : (formals : List Object) (x : Object) → Here x → measure_meant new formals x ≡ measure_meant names formals x
  measure_same formals x h = λ i. option_or (option_map natural_measure (natural_same formals x h i)) (ordinal_same formals (four_in x) (four_in_known names more x h) i)

  -- ---- what stands before a body
  abbrev Pair : ℕ × Object → Type 0
  Pair = PairKnown names more

  declare_same : (x : Object) → Here x → is_declare new x ≡ is_declare names x
  declare_same (Int z) h = refl
  declare_same (Character z) h = refl
  declare_same (Symbol z) h = refl
  declare_same (Text z) h = refl
  declare_same (Cons k rest) h = spelled (codes "DECLARE") k h.0

  ignored_same : (k : Object) → Here k → is_ignored new k ≡ is_ignored names k
  ignored_same k h = λ i. spelled (codes "IGNORE") k h i || (spelled (codes "IGNORABLE") k h i || (spelled (codes "TYPE") k h i || spelled (codes "OPTIMIZE") k h i))

  declared_same : (o : Option (List Object)) → IfSome o (Every Here) → declared_pairs new o ≡ declared_pairs names o
  declared_same None h = refl
  declared_same (Some []) h = refl
  declared_same (Some (k ∷ rest)) h = λ i. cond (ignored_same k h.0 i) (Some []) (cond (spelled (codes "XARGS") k h.0 i) (pairs_same names more rest h.1 i) None)

  declared_known : (o : Option (List Object)) → IfSome o (Every Here) → IfSome (declared_pairs names o) (Every Pair)
  declared_known None h = tt
  declared_known (Some []) h = tt
  declared_known (Some (k ∷ rest)) h =
      cond_has (Every Pair) (is_ignored names k) (Some []) (cond (spells names (codes "XARGS") k) (pairs_of names rest) None) tt
      (cond_has (Every Pair) (spells names (codes "XARGS") k) (pairs_of names rest) None (pairs_known names more rest h.1) tt)

  all_pairs_same : (f g : Object → Option (List (ℕ × Object))) (xs : List Object) → Every Here xs → ((x : Object) → Here x → f x ≡ g x) → all_pairs f xs ≡ all_pairs g xs
  all_pairs_same f g [] h k = refl
  all_pairs_same f g (x ∷ xs) h k = λ i. both (λ ps qs. ps ++ qs) (k x h.0 i) (all_pairs_same f g xs h.1 k i)

  all_pairs_known : (f : Object → Option (List (ℕ × Object))) (xs : List Object) → Every Here xs → ((x : Object) → Here x → IfSome (f x) (Every Pair)) → IfSome (all_pairs f xs) (Every Pair)
  all_pairs_known f [] h k = tt
  all_pairs_known f (x ∷ xs) h k = both_has (Every Pair) (Every Pair) (Every Pair) (λ ps qs. ps ++ qs) (f x) (all_pairs f xs) (k x h.0) (all_pairs_known f xs h.1 k) (λ ps qs a b. every_append Pair ps qs a b)

  before_same : (x : Object) → Here x → pairs_before new x ≡ pairs_before names x
  before_same (Int z) h = refl
  before_same (Character z) h = refl
  before_same (Symbol z) h = refl
  before_same (Text z) h = refl
  before_same (Cons k rest) h =
      then_same (Every Here) (all_pairs (λ d. declared_pairs new (elements d))) (all_pairs (λ d. declared_pairs names (elements d))) (elements rest) (elements_known names more rest h.1)
      (λ xs a. all_pairs_same (λ d. declared_pairs new (elements d)) (λ d. declared_pairs names (elements d)) xs a (λ x b. declared_same (elements x) (elements_known names more x b)))

  before_known : (x : Object) → Here x → IfSome (pairs_before names x) (Every Pair)
  before_known (Int z) h = tt
  before_known (Character z) h = tt
  before_known (Symbol z) h = tt
  before_known (Text z) h = tt
  before_known (Cons k rest) h =
      then_has (Every Here) (Every Pair) (all_pairs (λ d. declared_pairs names (elements d))) (elements rest) (elements_known names more rest h.1)
      (λ xs a. all_pairs_known (λ d. declared_pairs names (elements d)) xs a (λ x b. declared_known (elements x) (elements_known names more x b)))

  stated_value_same : (formals : List Object) (o : Option Object) → IfSome o Here → stated_of new formals o ≡ stated_of names formals o
  stated_value_same formals None h = refl
  stated_value_same formals (Some x) h = ap (option_map Some) (measure_same formals x h)

  stated_in_same : (formals : List Object) (ps : List (ℕ × Object)) → Every Pair ps → stated_in new formals ps ≡ stated_in names formals ps
  stated_in_same formals ps h =
      (λ i. cond (options_same names more xargs_texts ps h i) (stated_of new formals (value_same names more (codes ":MEASURE") ps h i)) None)
      ∙ ap (λ o. cond (are_options names xargs_texts ps) o None) (stated_value_same formals (value_of names (codes ":MEASURE") ps) (value_known names more (codes ":MEASURE") ps h))

  stated_same : (formals before : List Object) → Every Here before → stated_measure new formals before ≡ stated_measure names formals before
  stated_same formals before h =
      ap (option_and_then (stated_in new formals)) (all_pairs_same (pairs_before new) (pairs_before names) before h before_same)
      ∙ then_same (Every Pair) (stated_in new formals) (stated_in names formals) (xargs_of names before) (all_pairs_known (pairs_before names) before h before_known) (stated_in_same formals)

  -- ---- definitions
  record DefunKnown (d : DefunParts) : Type 0 where
    name : IsKnown names more d.name
    formals : Every Here d.formals
    before : Every Here d.before
    body : Here d.body

  stand_same : (before : List Object) → Every Here before → may_stand_before new before ≡ may_stand_before names before
  stand_same before h = ap (λ b. b && leb (texts_in before) 1) (all_same Here (λ x. is_text x || is_declare new x) (λ x. is_text x || is_declare names x) before h (λ x k. ap (λ b. is_text x || b) (declare_same x k)))

  body_part_same : (f : ℕ) (formals : List Object) (o : Option (List Object × Object)) → IfSome o (λ p. Every Here p.0 × Here p.1) → with_body new f formals o ≡ with_body names f formals o
  body_part_same f formals None h = refl
  body_part_same f formals (Some p) h = ap (λ b. cond b (Some (record { name = f; formals = formals; before = p.0; body = p.1 })) None) (stand_same p.0 h.0)

  body_part_known : (f : ℕ) (formals : List Object) (o : Option (List Object × Object)) → IsKnown names more f → Every Here formals → IfSome o (λ p. Every Here p.0 × Here p.1) → IfSome (with_body names f formals o) DefunKnown
  body_part_known f formals None hf hs h = tt
  body_part_known f formals (Some p) hf hs h =
      cond_has DefunKnown (may_stand_before names p.0) (Some (record { name = f; formals = formals; before = p.0; body = p.1 })) None (record { name = hf; formals = hs; before = h.0; body = h.1 }) tt

  named_same : (o : Option ℕ) (p : Option (List Object)) (behind : List Object) → Every Here behind → named_parts new o p behind ≡ named_parts names o p behind
  named_same None None behind h = refl
  named_same None (Some vs) behind h = refl
  named_same (Some f) None behind h = refl
  named_same (Some f) (Some vs) behind h = body_part_same f vs (split_last behind) (split_has Here behind h)

  named_known : (o : Option ℕ) (p : Option (List Object)) (behind : List Object) → IfSome o (IsKnown names more) → IfSome p (Every Here) → Every Here behind → IfSome (named_parts names o p behind) DefunKnown
  named_known None None behind ho hp h = tt
  named_known None (Some vs) behind ho hp h = tt
  named_known (Some f) None behind ho hp h = tt
  named_known (Some f) (Some vs) behind ho hp h = body_part_known f vs (split_last behind) ho hp (split_has Here behind h)

  defun_parts_same : (xs : List Object) → Every Here xs → defun_parts new xs ≡ defun_parts names xs
  defun_parts_same [] h = refl
  defun_parts_same (a ∷ []) h = refl
  defun_parts_same (a ∷ vs ∷ behind) h = ap (λ o. named_parts new o (elements vs) behind) (plain_same names more a h.0) ∙ named_same (plain_name names a) (elements vs) behind h.1.1

  defun_parts_known : (xs : List Object) → Every Here xs → IfSome (defun_parts names xs) DefunKnown
  defun_parts_known [] h = tt
  defun_parts_known (a ∷ []) h = tt
  defun_parts_known (a ∷ vs ∷ behind) h = named_known (plain_name names a) (elements vs) behind (plain_known names more a h.0) (elements_known names more vs h.1.0) h.1.1

  formals_same : (xs : List Object) → Every Here xs → formals_meant new xs ≡ formals_meant names xs
  formals_same xs h = ap checked_formals (all_meant_same Here (plain_name new) (plain_name names) xs h (plain_same names more))

  body_same : (own : List (ℕ × ℕ)) (vs : List ℕ) (form : Object) → Here form → body_meant new w own vs form ≡ body_meant names w own vs form
  body_same own vs form h = ap of_term (translated_same names more n unnamed w (record { vars = vs; every = false; own = own }) form h)

  made_same : (d : DefunParts) (stated : Option Measure) → DefunKnown d → defun_made new w d stated ≡ defun_made names w d stated
  made_same d stated h =
      ap (λ o. found_or (code.Term term_fault.BadUse) o (λ vs. and_then (body_meant new w ((d.name, length vs) ∷ []) vs d.body) (λ t. judged w stated (definition_made d.name vs t)))) (formals_same d.formals h.formals)
      ∙ found_same (λ vs. Unit {0}) (code.Term term_fault.BadUse) (formals_meant names d.formals) _ _ (anything (formals_meant names d.formals))
      (λ vs k. ap (λ o. and_then o (λ t. judged w stated (definition_made d.name vs t))) (body_same ((d.name, length vs) ∷ []) vs d.body h.body))

  taken_at : (t : ℕ) → IsKnown names more t → is_taken new w t ≡ is_taken names w t
  taken_at = taken_same names more w

  defun_same : (xs : List Object) → Every Here xs → defun_meant new w xs ≡ defun_meant names w xs
  defun_same xs h =
      ap (λ o. found_or code.BadEvent o (λ d. found_or code.BadOption (stated_measure new d.formals d.before) (λ stated. holds_or code.Redefined (not (is_taken new w d.name)) (defun_made new w d stated)))) (defun_parts_same xs h)
      ∙ found_same DefunKnown code.BadEvent (defun_parts names xs) _ _ (defun_parts_known xs h) (λ d k.
      ap (λ o. found_or code.BadOption o (λ stated. holds_or code.Redefined (not (is_taken new w d.name)) (defun_made new w d stated))) (stated_same d.formals d.before k.before)
      ∙ found_same (λ stated. Unit {0}) code.BadOption (stated_measure names d.formals d.before) _ _ (anything (stated_measure names d.formals d.before)) (λ stated z. λ i. holds_or code.Redefined (not (taken_at d.name k.name i)) (made_same d stated k i)))

  -- ---- cliques
  headed_same : (xs : List Object) → Every Here xs → headed_parts new xs ≡ headed_parts names xs
  headed_same [] h = refl
  headed_same (k ∷ parts) h = λ i. cond (spelled (codes "DEFUN") k h.0 i) (defun_parts_same parts h.1 i) None

  headed_known : (xs : List Object) → Every Here xs → IfSome (headed_parts names xs) DefunKnown
  headed_known [] h = tt
  headed_known (k ∷ parts) h = cond_has DefunKnown (spells names (codes "DEFUN") k) (defun_parts names parts) None (defun_parts_known parts h.1) tt

  member_parts_same : (x : Object) → Here x → member_parts new x ≡ member_parts names x
  member_parts_same x h = then_same (Every Here) (headed_parts new) (headed_parts names) (elements x) (elements_known names more x h) headed_same

  member_parts_known : (x : Object) → Here x → IfSome (member_parts names x) DefunKnown
  member_parts_known x h = then_has (Every Here) DefunKnown (headed_parts names) (elements x) (elements_known names more x h) headed_known

  members_known : (o : Option (List DefunParts)) → IfSome o (Every DefunKnown) → IfSome (checked_members o) (Every DefunKnown)
  members_known None h = tt
  members_known (Some ds) h = cond_has (Every DefunKnown) (are_members ds) (Some ds) None h tt

  abbrev StatedKnown : StatedMember → Type 0
  StatedKnown s = DefunKnown s.parts

  abbrev MadeKnown : MadeMember → Type 0
  MadeKnown m = Here m.body

  stated_member_same : (d : DefunParts) → DefunKnown d → stated_member new d ≡ stated_member names d
  stated_member_same d h = ap (option_map (λ m. record { parts = d; stated = m })) (stated_same d.formals d.before h.before)

  stated_member_known : (d : DefunParts) → DefunKnown d → IfSome (stated_member names d) StatedKnown
  stated_member_known d h = map_has (λ m. Unit {0}) StatedKnown (λ m. record { parts = d; stated = m }) (stated_measure names d.formals d.before) (anything (stated_measure names d.formals d.before)) (λ m k. h)

  made_member_same : (s : StatedMember) → StatedKnown s → made_member new s ≡ made_member names s
  made_member_same s h = ap (option_map (λ vs. record { name = s.parts.name; formals = vs; body = s.parts.body; stated = s.stated })) (formals_same s.parts.formals h.formals)

  made_member_known : (s : StatedMember) → StatedKnown s → IfSome (made_member names s) MadeKnown
  made_member_known s h = map_has (λ vs. Unit {0}) MadeKnown (λ vs. record { name = s.parts.name; formals = vs; body = s.parts.body; stated = s.stated }) (formals_meant names s.parts.formals) (anything (formals_meant names s.parts.formals)) (λ vs k. h.body)

  members_same : (own : List (ℕ × ℕ)) (ms : List MadeMember) → Every MadeKnown ms → members_meant new w own ms ≡ members_meant names w own ms
  members_same own [] h = refl
  members_same own (m ∷ ms) h =
      λ i. and_then (and_then (body_same own m.formals m.body h.0 i) (λ t. Ok (record { name = m.name; formals = m.formals; body = t; measure = m.stated }))) (λ d. and_then (members_same own ms h.1 i) (λ ds. Ok (d ∷ ds)))

  clique_made_same : (ds : List DefunParts) → Every DefunKnown ds → clique_made new w ds ≡ clique_made names w ds
  clique_made_same ds h =
      ap (λ o. found_or code.BadOption o (λ stated. holds_or code.Redefined (are_new new w stated) (found_or (code.Term term_fault.BadUse) (all_made new stated) (λ made. and_then (members_meant new w (owns_of made) made) (clique_judged w))))) (all_meant_same DefunKnown (stated_member new) (stated_member names) ds h stated_member_same)
      ∙ found_same (Every StatedKnown) code.BadOption (all_stated names ds) _ _ (all_meant_has DefunKnown StatedKnown (stated_member names) ds h stated_member_known) (λ ss k.
      (λ i. holds_or code.Redefined (all_same StatedKnown (is_new new w) (is_new names w) ss k (λ s z. ap not (taken_at s.parts.name z.name)) i) (found_or (code.Term term_fault.BadUse) (all_meant_same StatedKnown (made_member new) (made_member names) ss k made_member_same i) (λ made. and_then (members_meant new w (owns_of made) made) (clique_judged w))))
      ∙ ap (holds_or code.Redefined (are_new names w ss)) (found_same (Every MadeKnown) (code.Term term_fault.BadUse) (all_made names ss) _ _ (all_meant_has StatedKnown MadeKnown (made_member names) ss k made_member_known) (λ ms z. ap (λ o. and_then o (clique_judged w)) (members_same (owns_of ms) ms z))))

  clique_same : (xs : List Object) → Every Here xs → clique_by new w xs ≡ clique_by names w xs
  clique_same xs h =
      ap (λ o. found_or code.BadEvent (checked_members o) (clique_made new w)) (all_meant_same Here (member_parts new) (member_parts names) xs h member_parts_same)
      ∙ found_same (Every DefunKnown) code.BadEvent (clique_parts names xs) (clique_made new w) (clique_made names w) (members_known (all_meant (member_parts names) xs) (all_meant_has Here DefunKnown (member_parts names) xs h member_parts_known)) clique_made_same

  -- ---- the others
  string_same : (text : List ℕ) (x : Object) → Here x → is_string new text x ≡ is_string names text x
  string_same text (Int z) h = refl
  string_same text (Character z) h = refl
  string_same text (Symbol z) h = refl
  string_same text (Text t) h = ap (λ u. bytes_eq u text) (text_same names more t h)
  string_same text (Cons a d) h = refl

  package_same : (o : Option Object) → IfSome o Here → is_package new o ≡ is_package names o
  package_same None h = refl
  package_same (Some p) h = string_same (codes "ACL2") p h

  book_same : (o : Option (Object × Object × Object)) → IfSome o (λ p. Here p.0 × Here p.1 × Here p.2) → is_book new o ≡ is_book names o
  book_same None h = refl
  book_same (Some p) h = λ i. string_same (codes "centaur/gl/gl") p.0 h.0 i && (spelled (codes ":DIR") p.1 h.1 i && spelled (codes ":SYSTEM") p.2 h.2 i)

  quoted_same : (xs : List Object) → Every Here xs → quoted_part new xs ≡ quoted_part names xs
  quoted_same xs h =
      then_same Here (λ x. option_and_then (quoted_in new) (two_in x)) (λ x. option_and_then (quoted_in names) (two_in x)) (one_of xs) (one_has Here xs h)
      (λ x k. then_same (λ p. Here p.0 × Here p.1) (quoted_in new) (quoted_in names) (two_in x) (two_in_known names more x k) (λ p z. ap (λ b. cond b (Some p.1) None) (spelled (codes "QUOTE") p.0 z.0)))

  memo_same : (event : ℕ → EventSeen) (xs : List Object) → Every Here xs → memo_by new w event xs ≡ memo_by names w event xs
  memo_same event xs h = ap (λ o. and_then (found_or code.BadEvent o (λ x. found_or (code.Term term_fault.UnknownFunction) (function_named w x) (λ f. Ok f))) (λ f. Ok (event f))) (quoted_same xs h)

  closed_same : (form : Object) → Here form → closed_meant new w form ≡ closed_meant names w form
  closed_same form h = ap of_term (translated_same names more n unnamed w (record { vars = []; every = false; own = [] }) form h)

  evaluation_same : (event : Exp → EventSeen) (xs : List Object) → Every Here xs → evaluation_by new w event xs ≡ evaluation_by names w event xs
  evaluation_same event xs h = found_same Here code.BadEvent (one_of xs) _ _ (one_has Here xs h) (λ form k. ap (λ o. and_then o (λ t. Ok (event t))) (closed_same form k))

  record ConstantKnown (p : ConstantParts) : Type 0 where
    name : IsKnown names more p.name
    form : Here p.form

  constant_in_same : (p : Object × Object) → Here p.0 → constant_in new p ≡ constant_in names p
  constant_in_same p h = ap (λ o. constant_with o p.1) (constant_same names more p.0 h)

  constant_with_known : (o : Option ℕ) (form : Object) → IfSome o (IsKnown names more) → Here form → IfSome (constant_with o form) ConstantKnown
  constant_with_known None form h k = tt
  constant_with_known (Some c) form h k = record { name = h; form = k }

  defconst_same : (xs : List Object) → Every Here xs → defconst_by new w xs ≡ defconst_by names w xs
  defconst_same xs h =
      ap (λ o. found_or code.BadEvent o (λ p. holds_or code.Redefined (not (is_taken new w p.name)) (and_then (closed_meant new w p.form) (λ t. Ok (Defconst p.name t)))))
      (then_same (λ p. Here p.0 × Here p.1) (constant_in new) (constant_in names) (two_of xs) (two_has Here xs h) (λ p k. constant_in_same p k.0))
      ∙ found_same ConstantKnown code.BadEvent (option_and_then (constant_in names) (two_of xs)) _ _
      (then_has (λ p. Here p.0 × Here p.1) ConstantKnown (constant_in names) (two_of xs) (two_has Here xs h) (λ p k. constant_with_known (constant_name names p.0) p.1 (constant_known names more p.0 k.0) k.1))
      (λ p k. λ i. holds_or code.Redefined (not (taken_at p.name k.name i)) (and_then (closed_same p.form k.form i) (λ t. Ok (Defconst p.name t))))

  checked_same : (now : Mode) (memoized : List ℕ) (k : EventWord) (xs : List Object) → Every Here xs → checked new w now memoized k xs ≡ checked names w now memoized k xs
  checked_same now memoized word.InPackage xs h = ap (λ b. holds_or code.BadEvent b (Ok Nothing)) (package_same (one_of xs) (one_has Here xs h))
  checked_same now memoized word.IncludeBook xs h = ap (λ b. holds_or code.BadEvent b (Ok Nothing)) (book_same (three_of xs) (three_has Here xs h))
  checked_same now memoized word.Defun xs h = defun_same xs h
  checked_same now memoized word.MutualRecursion xs h = clique_same xs h
  checked_same now memoized word.Defconst xs h = defconst_same xs h
  checked_same now memoized word.ValueTriple xs h = evaluation_same Value xs h
  checked_same now memoized word.AssertEvent xs h = evaluation_same Assert xs h
  checked_same now memoized word.Memoize xs h = memo_same Memoize xs h
  checked_same now memoized word.Unmemoize xs h = memo_same Unmemoize xs h
  checked_same now memoized word.BddMode xs h = refl
  checked_same now memoized word.SatMode xs h = refl
  checked_same now memoized word.ParamMode xs h = refl
  checked_same now memoized word.ParamTheorem xs h = param_same names more n unnamed w now memoized xs h
  checked_same now memoized word.Theorem xs h = theorem_same names more n unnamed w now memoized xs h

  -- ---- redundant events, and the whole
  repeated_same : (x : Object) → Here x → repeated_member new w x ≡ repeated_member names w x
  repeated_same (Int z) h = refl
  repeated_same (Character z) h = refl
  repeated_same (Symbol z) h = refl
  repeated_same (Text z) h = refl
  repeated_same (Cons k rest) h = ap (λ b. cond b (repeated_name w (Cons k rest)) None) (spelled (codes "DEFUN") k h.0)

  redundant_clique_same : (o : Option (List Object)) → IfSome o (Every Here) → redundant_clique new w o ≡ redundant_clique names w o
  redundant_clique_same o h = ap checked_repeated (then_same (Every Here) (all_meant (repeated_member new w)) (all_meant (repeated_member names w)) o h (λ xs k. all_meant_same Here (repeated_member new w) (repeated_member names w) xs k repeated_same))

  redundant_same : (k : EventWord) (form : Object) (o : Option (List Object)) → IfSome o (Every Here) → redundant_by new w k form o ≡ redundant_by names w k form o
  redundant_same word.InPackage form o h = refl
  redundant_same word.IncludeBook form o h = refl
  redundant_same word.Defun form o h = refl
  redundant_same word.MutualRecursion form o h = redundant_clique_same o h
  redundant_same word.Defconst form o h = refl
  redundant_same word.ValueTriple form o h = refl
  redundant_same word.AssertEvent form o h = refl
  redundant_same word.Memoize form o h = refl
  redundant_same word.Unmemoize form o h = refl
  redundant_same word.BddMode form o h = refl
  redundant_same word.SatMode form o h = refl
  redundant_same word.ParamMode form o h = refl
  redundant_same word.Theorem form o h = refl
  redundant_same word.ParamTheorem form o h = refl

  behind_same : (now : Mode) (memoized : List ℕ) (k : EventWord) (form : Object) (o : Option (List Object)) → IfSome o (Every Here) → meant_behind new w now memoized k form o ≡ meant_behind names w now memoized k form o
  behind_same now memoized k form o h = λ i. unless_redundant (redundant_same k form o h i) (found_same (Every Here) code.BadEvent o (checked new w now memoized k) (checked names w now memoized k) h (checked_same now memoized k) i)

  word_same : (form : Object) → Here form → word_in new form ≡ word_in names form
  word_same (Int z) h = refl
  word_same (Character z) h = refl
  word_same (Symbol z) h = refl
  word_same (Text z) h = refl
  word_same (Cons (Symbol t) rest) h = ap event_word (text_same names more t h.0)
  word_same (Cons (Int z) rest) h = refl
  word_same (Cons (Character z) rest) h = refl
  word_same (Cons (Text z) rest) h = refl
  word_same (Cons (Cons a d) rest) h = refl

  behind_known : (form : Object) → Here form → Here (behind_head form)
  behind_known (Int z) h = h
  behind_known (Character z) h = h
  behind_known (Symbol z) h = h
  behind_known (Text z) h = h
  behind_known (Cons a d) h = h.1

  event_same : (now : Mode) (memoized : List ℕ) (form : Object) → Here form → event_by new w now memoized form ≡ event_by names w now memoized form
  event_same now memoized form h =
      let parts = elements (behind_head form) in
      let known = elements_known names more (behind_head form) (behind_known form h) in
      ap (λ o. found_or code.UnknownEvent o (λ k. meant_behind new w now memoized k form parts)) (word_same form h)
      ∙ found_same (λ k. Unit {0}) code.UnknownEvent (word_in names form) _ _ (anything (word_in names form)) (λ k z. behind_same now memoized k form parts known)

later_by : (names table : List (List ℕ)) (n : ℕ) (w : WorldSeen) (now : Mode) (memoized : List ℕ) (form : Object) → number_of [] names ≡ Some n → Extends names table → IsNumbered (length names) form → event_by names w now memoized form ≡ event_by table w now memoized form
later_by names table n w now memoized form h x k = sym (ap (λ (l : List (List ℕ)). event_by l w now memoized form) x.1 ∙ event_same names x.0 n h w now memoized form k)

pub event_later : (names table : List (List ℕ)) (n : ℕ) (w : WorldSeen) (now : Mode) (memoized : List ℕ) (form : Object) → number_of [] names ≡ Some n → Extends names table → IsNumbered (length names) form → event_meant names w now memoized form ≡ event_meant table w now memoized form
event_later names table n w now memoized form h x k = event_is names w now memoized form ∙ (later_by names table n w now memoized form h x k ∙ sym (event_is table w now memoized form))
