-- Tables beside lists, in one arena.
use Rattle.std.proofs.Common.{◌≡◌, ◌∙◌, ap, sym, refl, subst, Bool, true, false, true≢false, List, [], Some, None, is_some, inl, inr, ◌⊎◌, ◌+◌, ◌<◌, arith}
use Rattle.gl_logic.specs.Lists.{IsAtom, size_of}
use Rattle.gl_logic.specs.Object.{Object, Cons, car, cdr}
use Rattle.gl_logic.specs.ObjectEq.{object_eq}
use Rattle.gl_logic.proofs.Equality.{equal_from, equal_itself}
use Rattle.hons_arena.specs.declared.id.Id.{Id}
use Rattle.hons_arena.specs.Ids.{object_at, IsLive, ArePartsOf}
use Rattle.fast_alists.specs.Alists.{first_pair, has_key, with_pair}
use Rattle.hons_arena.specs.HashedIds.{id_eq}
use Rattle.fast_alists.specs.Tables.{pair_in, IsFirst, HasKeyOf, IsTable, Covers, PutsPair}
use Rattle.hons_arena.proofs.HashedIds.{id_same, id_itself}
use Rattle.fast_alists.proofs.Pairs.{none_some, some_same, cond_true, cond_false, first_here, first_later, first_passed, atom_first}

-- equal objects have one id
abbrev pub OneId : List Object → Type 0
OneId objects = (a b : Id) → IsLive objects a → IsLive objects b → object_at objects a ≡ object_at objects b → a ≡ b

-- whether a test holds
cases : (b : Bool) → (b ≡ true) ⊎ (b ≡ false)
cases true = inl refl
cases false = inr refl

module _ (objects : List Object) (same : OneId objects) where
  -- other ids have other objects
  other : (key k : Id) → IsLive objects key → IsLive objects k → id_eq key k ≡ false → object_eq (object_at objects k) (object_at objects key) ≡ false
  other key k l m e = elim (cases (object_eq (object_at objects k) (object_at objects key))) [
    | inl t ↦ absurd (true≢false (sym (subst (λ (j : Id). id_eq key j ≡ true) (same key k l m (sym (equal_from _ _ t))) (id_itself key)) ∙ e))
    | inr f ↦ f
  ]

  module _ (old new : List (Id × Id)) (key pair : Id) (puts : PutsPair old new key pair) where
    -- what is in the new table is the pair, or was there
    put_cases : (k p : Id) → pair_in new k ≡ Some p → ((key ≡ k) × (pair ≡ p)) ⊎ ((id_eq key k ≡ false) × (pair_in old k ≡ Some p))
    put_cases k p h = elim (cases (id_eq key k)) [
      | inl t ↦ inl (id_same key k t, some_same pair p (sym (puts k ∙ cond_true (id_eq key k) (Some pair) (pair_in old k) t) ∙ h))
      | inr f ↦ inr (f, sym (puts k ∙ cond_false (id_eq key k) (Some pair) (pair_in old k) f) ∙ h)
    ]

    has_new : (q : Object) → object_at objects key ≡ q → HasKeyOf objects new q
    has_new q e = record { id = key; pair = pair; held = puts key ∙ cond_true (id_eq key key) (Some pair) (pair_in old key) (id_itself key); is = e }

    has_still : (q : Object) → HasKeyOf objects old q → HasKeyOf objects new q
    has_still q h = elim (cases (id_eq key h.id)) [
      | inl t ↦ record { id = h.id; pair = pair; held = puts h.id ∙ cond_true (id_eq key h.id) (Some pair) (pair_in old h.id) t; is = h.is }
      | inr f ↦ record { id = h.id; pair = h.pair; held = puts h.id ∙ (cond_false (id_eq key h.id) (Some pair) (pair_in old h.id) f ∙ h.held); is = h.is }
    ]

    module _ (key_live : IsLive objects key) (pair_live : IsLive objects pair) (v : Object) (pair_is : object_at objects pair ≡ Cons (object_at objects key) v) where
      -- the table of a list and of the list with the pair in front
      pub extended : (alist longer : Id) → IsLive objects longer → object_at objects longer ≡ Cons (object_at objects pair) (object_at objects alist) → IsTable objects alist old → IsTable objects longer new
      extended alist longer live is t =
          let list = object_at objects alist in
          let whole : object_at objects longer ≡ Cons (Cons (object_at objects key) v) list = is ∙ ap (λ x. Cons x list) pair_is in record {
            live = live;
            right = λ k p h. elim (put_cases k p h) [
              | inl e ↦ subst (λ (j : Id). IsFirst objects (object_at objects longer) j p) e.0
                  (subst (λ (j : Id). IsFirst objects (object_at objects longer) key j) e.1
                  (record { key_live = key_live; pair_live = pair_live; first = ap (first_pair (object_at objects key)) whole ∙ (first_here (object_at objects key) v list ∙ ap Some (sym pair_is)) }))
              | inr e ↦ let f = t.right k p e.1 in
                  record { key_live = f.key_live; pair_live = f.pair_live; first = ap (first_pair (object_at objects k)) whole ∙ (first_later (object_at objects k) (object_at objects key) v list (other key k key_live f.key_live e.0) ∙ f.first) }
            ];
            whole = λ q. elim (cases (object_eq q (object_at objects key))) [
              | inl e ↦ inl (has_new q (sym (equal_from q (object_at objects key) e)))
              | inr e ↦ elim (t.whole q) [
                | inl h ↦ inl (has_still q h)
                | inr n ↦ inr (ap (first_pair q) whole ∙ (first_later q (object_at objects key) v list e ∙ n))
              ]
            ];
          }

      -- an element with a new key is looked at
      pub noted : (list rest : Object) → pair_in old key ≡ None → Covers objects list (Cons (object_at objects pair) rest) old → Covers objects list rest new
      noted list rest none c =
          let front : Cons (object_at objects pair) rest ≡ Cons (Cons (object_at objects key) v) rest = ap (λ x. Cons x rest) pair_is in
          let here : first_pair (object_at objects key) list ≡ Some (object_at objects pair) = elim (c.later (object_at objects key)) [
            | inl h ↦ none_some h.pair (sym none ∙ subst (λ (j : Id). pair_in old j ≡ Some h.pair) (same h.id key (c.right h.id h.pair h.held).key_live key_live h.is) h.held)
            | inr e ↦ e ∙ (ap (first_pair (object_at objects key)) front ∙ (first_here (object_at objects key) v rest ∙ ap Some (sym pair_is)))
          ] in record {
            right = λ k p h. elim (put_cases k p h) [
              | inl e ↦ subst (λ (j : Id). IsFirst objects list j p) e.0
                  (subst (λ (j : Id). IsFirst objects list key j) e.1 (record { key_live = key_live; pair_live = pair_live; first = here }))
              | inr e ↦ c.right k p e.1
            ];
            later = λ q. elim (cases (object_eq q (object_at objects key))) [
              | inl e ↦ inl (has_new q (sym (equal_from q (object_at objects key) e)))
              | inr e ↦ elim (c.later q) [
                | inl h ↦ inl (has_still q h)
                | inr n ↦ inr (n ∙ (ap (first_pair q) front ∙ first_later q (object_at objects key) v rest e))
              ]
            ];
          }

  -- an element whose key is there already
  pub skipped : (list rest v : Object) (table : List (Id × Id)) (key p : Id) → pair_in table key ≡ Some p → Covers objects list (Cons (Cons (object_at objects key) v) rest) table → Covers objects list rest table
  skipped list rest v table key p h c = record {
    right = c.right;
    later = λ q. elim (cases (object_eq q (object_at objects key))) [
      | inl e ↦ inl (record { id = key; pair = p; held = h; is = sym (equal_from q (object_at objects key) e) })
      | inr e ↦ elim (c.later q) [
        | inl k ↦ inl k
        | inr n ↦ inr (n ∙ first_later q (object_at objects key) v rest e)
      ]
    ];
  }

  -- the answer of a table
  pub lacks : (alist key : Id) (table : List (Id × Id)) → IsTable objects alist table → IsLive objects key → pair_in table key ≡ None → first_pair (object_at objects key) (object_at objects alist) ≡ None
  lacks alist key table t live none = elim (t.whole (object_at objects key)) [
    | inl h ↦ none_some h.pair (sym none ∙ subst (λ (j : Id). pair_in table j ≡ Some h.pair) (same h.id key (t.right h.id h.pair h.held).key_live live h.is) h.held)
    | inr e ↦ e
  ]

-- an element that is no pair
pub passed : (objects : List Object) (list x rest : Object) (table : List (Id × Id)) → IsAtom x → Covers objects list (Cons x rest) table → Covers objects list rest table
passed objects list x rest table atom c = record {
  right = c.right;
  later = λ q. elim (c.later q) [
    | inl k ↦ inl k
    | inr n ↦ inr (n ∙ first_passed q x rest atom)
  ];
}

-- ---- before the first element and behind the last
pub covers_none : (objects : List Object) (list : Object) → Covers objects list list []
covers_none objects list = record { right = λ k p h. none_some p h; later = λ q. inr refl }

pub covers_all : (objects : List Object) (alist : Id) (rest : Object) (table : List (Id × Id)) → IsLive objects alist → IsAtom rest → Covers objects (object_at objects alist) rest table → IsTable objects alist table
covers_all objects alist rest table live atom c = record {
  live = live;
  right = c.right;
  whole = λ q. elim (c.later q) [
    | inl k ↦ inl k
    | inr n ↦ inr (n ∙ atom_first q rest atom)
  ];
}

pub table_of_none : (objects : List Object) (alist : Id) → IsLive objects alist → IsAtom (object_at objects alist) → IsTable objects alist []
table_of_none objects alist live atom = covers_all objects alist (object_at objects alist) [] live atom (covers_none objects (object_at objects alist))

-- ---- one element of a list, by its parts
module _ (objects : List Object) (same : OneId objects) (element key rest : Id) (parts : ArePartsOf objects (object_at objects element) key rest) (live : IsLive objects element) where
  pair_is : object_at objects element ≡ Cons (object_at objects key) (cdr (object_at objects element))
  pair_is = parts.whole ∙ ap (λ z. Cons z (cdr (object_at objects element))) (sym parts.first.1)

  pub noted_parts : (old new : List (Id × Id)) → pair_in old key ≡ None → PutsPair old new key element → (list tail : Object) → Covers objects list (Cons (object_at objects element) tail) old → Covers objects list tail new
  noted_parts old new none puts list tail c = noted objects same old new key element puts parts.first.0 live (cdr (object_at objects element)) pair_is list tail none c

  pub skipped_parts : (old : List (Id × Id)) (p : Id) → pair_in old key ≡ Some p → (list tail : Object) → Covers objects list (Cons (object_at objects element) tail) old → Covers objects list tail old
  skipped_parts old p h list tail c = skipped objects same list tail (cdr (object_at objects element)) old key p h (subst (λ (z : Object). Covers objects list (Cons z tail) old) pair_is c)

  pub extended_parts : (old new : List (Id × Id)) → PutsPair old new key element → (alist longer : Id) → IsLive objects longer → object_at objects longer ≡ Cons (object_at objects element) (object_at objects alist) → IsTable objects alist old → IsTable objects longer new
  extended_parts old new puts = extended objects same old new key element puts parts.first.0 live (cdr (object_at objects element)) pair_is

  -- what the element is put in front of
  pub put_known : (ans p : Id) (table : List (Id × Id)) → IsTable objects ans table → pair_in table key ≡ Some p → with_pair (object_at objects element) (object_at objects ans) ≡ object_at objects ans
  put_known ans p table t h = ap (λ z. with_pair z (object_at objects ans)) pair_is
      ∙ cond_true (is_some (first_pair (object_at objects key) (object_at objects ans))) (object_at objects ans) _ (ap is_some (t.right key p h).first)

  pub put_new : (ans : Id) (table : List (Id × Id)) → IsTable objects ans table → pair_in table key ≡ None → with_pair (object_at objects element) (object_at objects ans) ≡ Cons (object_at objects element) (object_at objects ans)
  put_new ans table t h = ap (λ z. with_pair z (object_at objects ans)) pair_is
      ∙ (cond_false (is_some (first_pair (object_at objects key) (object_at objects ans))) (object_at objects ans) _ (ap is_some (lacks objects same ans key table t parts.first.0 h))
      ∙ ap (λ z. Cons z (object_at objects ans)) (sym pair_is))

-- ---- the test of a key
pub key_test : (key x first : Object) (r : Bool) → x ≡ Cons (car x) (cdr x) → first ≡ car x → (r ≡ true → key ≡ first) → (key ≡ first → r ≡ true) → r ≡ has_key key x
key_test key x first r whole e f g = by r refl ∙ ap (has_key key) (sym whole) where
  by : (b : Bool) → r ≡ b → r ≡ object_eq key (car x)
  by true t = t ∙ sym (subst (λ (z : Object). object_eq key z ≡ true) (f t ∙ e) (equal_itself key))
  by false t = t ∙ sym (elim (cases (object_eq key (car x))) [
    | inl k ↦ absurd (true≢false (sym (g (equal_from key (car x) k ∙ sym e)) ∙ t))
    | inr k ↦ k
  ])

-- ---- walking a list
pub first_found : (objects : List Object) (key : Object) (list element rest : Id) → ArePartsOf objects (object_at objects list) element rest → has_key key (object_at objects element) ≡ true → first_pair key (object_at objects list) ≡ Some (object_at objects element)
first_found objects key list element rest p h = ap (first_pair key) p.whole ∙ (cond_true (has_key key (car (object_at objects list))) _ _ (ap (has_key key) (sym p.first.1) ∙ h) ∙ ap Some (sym p.first.1))

pub first_not : (objects : List Object) (key : Object) (list element rest : Id) → ArePartsOf objects (object_at objects list) element rest → has_key key (object_at objects element) ≡ false → first_pair key (object_at objects list) ≡ first_pair key (object_at objects rest)
first_not objects key list element rest p h = ap (first_pair key) p.whole ∙ (cond_false (has_key key (car (object_at objects list))) _ _ (ap (has_key key) (sym p.first.1) ∙ h) ∙ ap (first_pair key) (sym p.rest.1))

pub parts_are : (objects : List Object) (x : Object) (a d : Id) → ArePartsOf objects x a d → x ≡ Cons (object_at objects a) (object_at objects d)
parts_are objects x a d p = p.whole ∙ (λ i. Cons (sym p.first.1 i) (sym p.rest.1 i))

pub rest_smaller : (objects : List Object) (x : Object) (a d : Id) → ArePartsOf objects x a d → size_of (object_at objects d) < size_of x
rest_smaller objects x a d p = let e : size_of x ≡ size_of (object_at objects a) + size_of (object_at objects d) + 1 = ap size_of (parts_are objects x a d p) in omega (arith, e)
