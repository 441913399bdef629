use Rattle.std.proofs.Common.{◌≡◌, ◌∙◌, ap, sym, ℕ, ◌+◌, ◌-◌, ◌<◌, List, [], ◌∷◌, ◌++◌, map, get_or, length, Option, None, Some, refl, inl, inr, arith}
use Rattle.std.proofs.lemmas.Bool.{cases_lt}
use Rattle.std.proofs.lemmas.List.{map-append}
use Rattle.std.proofs.lemmas.Result.{err_from_is_err_and}
use Rattle.gl_logic.specs.Object.{Object}
use Rattle.gl_logic.specs.Lists.{size_of}
use Rattle.shape_spec.specs.ItemsMeant.{Slotted, item_meant, in_sequence, mixed}
use Rattle.shape_spec.specs.Gives.{within, all_within, slots_in, slotted_of}
use Rattle.shape_spec.specs.declared.item_form.Items.{Items}
use Rattle.shape_spec.proofs.Fits.{gives_at, gives_err, refuses_none}
use Rattle.gl_logic.proofs.ProperLists.{most_at}
use Rattle.shape_spec.proofs.InReverse.{started, read_more, read_none, read_all, left_of}
use Rattle.shape_spec.proofs.ItemSteps.{item_none, within_some, within_none, all_within_at, too_many, slots_push, sequence_none, sequence_some, mixed_none, mixed_some, nat_at, int_at, boolean_at, no_word_at, most_front}
use Rattle.shape_spec.proofs.item_form.+item.Goals as goal

abbrev one_item : Slotted → Option Slotted
one_item s = Some s

-- an item that means nothing, or has more slots than are left
no_next : (names : List (List ℕ)) (forms : List Object) (done : List Slotted) (left whole place more : ℕ) (x : Object) → place < length forms → more ≡ place + 1 → x ≡ get_or forms place x → left + length (slots_in done) ≡ whole
    → (o : Option Slotted) → item_meant names x ≡ o → within left (item_meant names x) ≡ None → all_within whole (left_of (item_meant names) forms done more) ≡ None
no_next names forms done left whole place more x h e at behind None is none = ap (all_within whole) (read_none (item_meant names) forms done place more x h e at is)
no_next names forms done left whole place more x h e at behind (Some m) is none =
    ap (all_within whole) (read_more (item_meant names) forms done place more x m h e at is)
    ∙ too_many names forms done left whole place m behind (elim (cases_lt left (length m.slots)) [ inl l ↦ l | inr l ↦ absurd (within_none left (item_meant names x) none m is (omega (arith, l))) ])

pub all_items-returns-in_err-next : goal.all_items-returns-in_err-next
all_items-returns-in_err-next t c =
    let names = c.args.texts.now in
    let forms = c.args.forms.now in
    let done = map slotted_of c.loop-place.all.items in
    let place = c.loop-place.place - 1 in
    let x = c.index-forms-place.result in
    let inside : place < length forms = omega (arith, c.loop-place-test.true, c.loop-place.invariant.within) in
    let next : c.loop-place.place ≡ place + 1 = omega (arith, c.loop-place-test.true) in
    let over = λ (e : within c.loop-place.left (item_meant names x) ≡ None). ap (all_within c.args.left) c.loop-place.invariant.so_far
    ∙ no_next names forms done c.loop-place.left c.args.left place c.loop-place.place x inside next c.index-forms-place.is c.loop-place.invariant.behind (item_meant names x) refl e in
    gives_err (λ v. map slotted_of v.items) c.from_residual.result c.in_err-next.field-0.0 _ (err_from_is_err_and c.from_residual.result c.from_residual.ensures.1)
    (refuses_none c.in_err-next.field-0.0 (within c.loop-place.left (item_meant names x)) _ over c.in_err-next.ensures)

pub all_items-item-requires : goal.all_items-item-requires
all_items-item-requires t c =
    let s = most_at c.args.forms.now (c.loop-place.place - 1) c.index-forms-place.result (omega (arith, c.loop-place-test.true, c.loop-place.invariant.within)) c.index-forms-place.is in
    (omega (arith, s, c.decreases), tt)

pub all_items-loop-place-preserved : goal.all_items-loop-place-preserved
all_items-loop-place-preserved t c =
    let names = c.args.texts.now in
    let forms = c.args.forms.now in
    let done = map slotted_of c.loop-place.all.items in
    let place = c.loop-place.place - 1 in
    let x = c.index-forms-place.result in
    let m = slotted_of c.in_ok-next.next in
    let inside : place < length forms = omega (arith, c.loop-place-test.true, c.loop-place.invariant.within) in
    let next : c.loop-place.place ≡ place + 1 = omega (arith, c.loop-place-test.true) in
    let one = within_some c.loop-place.left (item_meant names x) m c.in_ok-next.ensures in
    let pushed : map slotted_of c.push.new.self.items ≡ done ++ m ∷ [] = ap (map slotted_of) c.in_ok-push.ensures.items ∙ map-append slotted_of c.loop-place.all.items (c.in_ok-next.next ∷ []) in
    let long : c.len.result ≡ length m.slots = c.len.ensures ∙ c.in_ok-next.next.slots.ok.0 in
    record {
      within = omega (arith, c.loop-place.invariant.within);
      so_far = c.loop-place.invariant.so_far ∙ (read_more (item_meant names) forms done place c.loop-place.place x m inside next c.index-forms-place.is one.is
          ∙ ap (λ (d : List Slotted). left_of (item_meant names) forms d place) (sym pushed));
      behind = omega (arith, c.loop-place.invariant.behind, one.few, long, slots_push done m, ap (λ (d : List Slotted). length (slots_in d)) pushed);
    }

pub all_items-returns : goal.all_items-returns
all_items-returns t c =
    let names = c.args.texts.now in
    let done = map slotted_of c.loop-place.all.items in
    let none : c.loop-place.place ≡ 0 = omega (arith, c.loop-place-test.false) in
    ap (all_within c.args.left) (c.loop-place.invariant.so_far ∙ read_all (item_meant names) c.args.forms.now done c.loop-place.place none)
    ∙ all_within_at c.args.left done (omega (arith, c.loop-place.invariant.behind))

pub all_items-loop-place-init : goal.all_items-loop-place-init
all_items-loop-place-init t c =
    let none : map slotted_of c.new-all.result.items ≡ [] = ap (map slotted_of) c.new-all.ensures.items in
    record {
      within = omega arith;
      so_far = started (item_meant c.args.texts.now) c.args.forms.now (length c.args.forms.now) refl ∙ ap (λ (d : List Slotted). left_of (item_meant c.args.texts.now) c.args.forms.now d (length c.args.forms.now)) (sym none);
      behind = omega (arith, ap (λ (d : List Slotted). length (slots_in d)) none);
    }

pub item-listed_item-requires : goal.item-listed_item-requires
item-listed_item-requires t c =
    let same = ap size_of c.in-Some.ensures.proper in
    (omega (arith, same, c.decreases), tt)

pub item-returns-in-Some : goal.item-returns-in-Some
item-returns-in-Some t c =
    gives_at slotted_of c.listed_item.result (ap (λ (x : Object). within c.args.left (item_meant c.args.texts.now x)) (sym c.in-Some.ensures.proper)) c.listed_item.ensures

pub item-returns-in-None : goal.item-returns-in-None
item-returns-in-None t c =
    ap (within c.args.left) (item_none c.args.texts.now c.args.form.now c.in-None.ensures.elements)

-- ---- an item by its word
pub listed_item-all_items-requires : goal.listed_item-all_items-requires
listed_item-all_items-requires t c =
    let s = most_front c.args.parts.now (length c.args.parts.now - 1) in
    (omega (arith, s, c.decreases), tt)

pub listed_item-all_items-requires-in-Some-Mix : goal.listed_item-all_items-requires-in-Some-Mix
listed_item-all_items-requires-in-Some-Mix t c =
    let s = most_front c.args.parts.now (length c.args.parts.now - 1) in
    (omega (arith, s, c.decreases), tt)

pub listed_item-returns-in_err-all-in-Some-Seq : goal.listed_item-returns-in_err-all-in-Some-Seq
listed_item-returns-in_err-all-in-Some-Seq t c =
    gives_err slotted_of c.from_residual.result c.in_err-all-in-Some-Seq.field-0.0 _ (err_from_is_err_and c.from_residual.result c.from_residual.ensures.1)
    (refuses_none c.in_err-all-in-Some-Seq.field-0.0 _ _ (sequence_none c.args.left c.args.texts.now c.args.parts.now c.word-item.result c.in-len1-up.len_at_least c.word-item.is (sym c.item_of.ensures ∙ (c.in-Some-Seq.is ∙ ap Some c.in-Some-Seq.field-0-is))) c.in_err-all-in-Some-Seq.ensures)

pub listed_item-returns-in_err-all-in-Some-Mix : goal.listed_item-returns-in_err-all-in-Some-Mix
listed_item-returns-in_err-all-in-Some-Mix t c =
    gives_err slotted_of c.from_residual-in_err-all-in-Some-Mix.result c.in_err-all-in-Some-Mix.field-0.0 _ (err_from_is_err_and c.from_residual-in_err-all-in-Some-Mix.result c.from_residual-in_err-all-in-Some-Mix.ensures.1)
    (refuses_none c.in_err-all-in-Some-Mix.field-0.0 _ _ (mixed_none c.args.left c.args.texts.now c.args.parts.now c.word-item.result c.in-len1-up.len_at_least c.word-item.is (sym c.item_of.ensures ∙ (c.in-Some-Mix.is ∙ ap Some c.in-Some-Mix.field-0-is))) c.in_err-all-in-Some-Mix.ensures)

pub listed_item-returns-in-Some-Nat : goal.listed_item-returns-in-Some-Nat
listed_item-returns-in-Some-Nat t c = gives_at slotted_of c.number.result (nat_at c.args.left c.args.texts.now c.args.parts.now c.word-item.result c.in-len1-up.len_at_least c.word-item.is (sym c.item_of.ensures ∙ (c.in-Some-Nat.is ∙ ap Some c.in-Some-Nat.field-0-is))) c.number.ensures

pub listed_item-returns-in-Some-Int : goal.listed_item-returns-in-Some-Int
listed_item-returns-in-Some-Int t c = gives_at slotted_of c.number-in-Some-Int.result (int_at c.args.left c.args.texts.now c.args.parts.now c.word-item.result c.in-len1-up.len_at_least c.word-item.is (sym c.item_of.ensures ∙ (c.in-Some-Int.is ∙ ap Some c.in-Some-Int.field-0-is))) c.number-in-Some-Int.ensures

pub listed_item-returns-in-Some-Boolean : goal.listed_item-returns-in-Some-Boolean
listed_item-returns-in-Some-Boolean t c = gives_at slotted_of c.boolean.result (boolean_at c.args.left c.args.texts.now c.args.parts.now c.word-item.result c.in-len1-up.len_at_least c.word-item.is (sym c.item_of.ensures ∙ (c.in-Some-Boolean.is ∙ ap Some c.in-Some-Boolean.field-0-is))) c.boolean.ensures

pub listed_item-returns-in_ok-sequence-in-Some-Seq : goal.listed_item-returns-in_ok-sequence-in-Some-Seq
listed_item-returns-in_ok-sequence-in-Some-Seq t c =
    sequence_some c.args.left c.args.texts.now c.args.parts.now c.word-item.result c.in-len1-up.len_at_least c.word-item.is (sym c.item_of.ensures ∙ (c.in-Some-Seq.is ∙ ap Some c.in-Some-Seq.field-0-is)) (map slotted_of c.in_ok-all-in-Some-Seq.all.items) c.in_ok-all-in-Some-Seq.ensures
    ∙ ap one_item (ap (λ (is : List Items). in_sequence (map slotted_of is)) (sym c.as_slice.ensures.value) ∙ sym c.in_ok-sequence-in-Some-Seq.ensures)

pub listed_item-returns-in_ok-all-in-Some-Mix : goal.listed_item-returns-in_ok-all-in-Some-Mix
listed_item-returns-in_ok-all-in-Some-Mix t c =
    gives_at slotted_of c.mixed.result
    (ap (λ (is : List Items). mixed (map slotted_of is)) c.as_slice-in-Some-Mix.ensures.value
    ∙ sym (mixed_some c.args.left c.args.texts.now c.args.parts.now c.word-item.result c.in-len1-up.len_at_least c.word-item.is (sym c.item_of.ensures ∙ (c.in-Some-Mix.is ∙ ap Some c.in-Some-Mix.field-0-is)) (map slotted_of c.in_ok-all-in-Some-Mix.all.items) c.in_ok-all-in-Some-Mix.ensures))
    c.mixed.ensures

pub listed_item-returns-in-None : goal.listed_item-returns-in-None
listed_item-returns-in-None t c = no_word_at c.args.left c.args.texts.now c.args.parts.now c.word-item.result c.in-len1-up.len_at_least c.word-item.is (sym c.item_of.ensures ∙ c.in-None.is)
