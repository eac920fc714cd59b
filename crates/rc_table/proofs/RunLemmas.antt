-- Cards that go together are as if each went by itself.
use Rattle.std.proofs.Common.{◌≡◌, ℕ, zero, suc, ◌<◌, ◌==◌, ◌||◌, not, Bool, true, false, cond, List, [], ◌∷◌, ◌++◌, length, get_or, set, remove, reverse, replicate, inl, inr, refl, sym, ap, ◌∙◌, subst, arith, length-set, length-append, append-nil, true≢false}
use Rattle.std.specs.Prelude.{filter, All}
use Rattle.std.proofs.lemmas.Bool.{cases_eq, cases_lt}
use Rattle.std.proofs.lemmas.Bool.Decides.{Decides-eqb}
use Rattle.std.proofs.lemmas.List.{set-set, set_comm, set-get_or, get_or-set_same, get_or-set_other, get_or_past, append_assoc, reverse-append, get_or-replicate, length-replicate}
use Rattle.std.proofs.lemmas.List.Elements.{filter-append, recursion_from_All, All-from_recursion}
use Rattle.std.proofs.Math.ListN.{get_or-append}
use Rattle.rc_sheet_spec.specs.Sheet.{End, top, bottom}
use Rattle.rc_play_spec.specs.Shape.{Shape}
use Rattle.rc_play_spec.specs.Table.{Table, IsSound, list_at, place_of, with_list, set_marks, onto, under, cleared}
use Rattle.rc_play_spec.specs.Bound.{HoldsCards}
use Rattle.rc_play_spec.specs.Effects.{put}
use Rattle.rc_play_spec.specs.TableLaws.{PutKeepsSound}
use Rattle.rc_play_spec.proofs.OnePlace.{is_card, one_place}
use Rattle.std.proofs.lemmas.Option.{slice_get_within}
use Rattle.rc_play_spec.proofs.OpeningLemmas.{differs}
use Rattle.rc_table.specs.Runs.{put_each, all_added, left_out, run_moved, run_put, is_free, flagged, AreFresh}
use Rattle.rc_table.proofs.WhereaboutLemmas.{stands_there}

abbrev pub other_than : ℕ → ℕ → Bool
other_than id other = not (other == id)

abbrev pub added : End → ℕ → List ℕ → List ℕ
added top id list = list ++ id ∷ []
added bottom id list = id ∷ list

same_id : (a b : ℕ) → a ≡ b → (a == b) ≡ true
same_id a b is = (Decides-eqb a b).1 is

differ : (a b : ℕ) → (a ≡ b → ⊥) → (a == b) ≡ false
differ a b never = differs a b (a == b) refl never

-- LISTS WITHOUT AN ID

none_out : (id : ℕ) (xs : List ℕ) → ((q : ℕ) → q < length xs → get_or xs q 0 ≡ id → ⊥) → filter (other_than id) xs ≡ xs
none_out id [] never = refl
none_out id (x ∷ xs) never =
    ap (λ b. cond (not b) (x ∷ filter (other_than id) xs) (filter (other_than id) xs)) (differ x id (λ e. never 0 (omega arith) e))
    ∙ ap (λ ys. x ∷ ys) (none_out id xs (λ q less is. never (suc q) (omega (arith, less)) is))

-- where an id stands once
pub once_out : (id : ℕ) (xs : List ℕ) (p : ℕ) → p < length xs → get_or xs p 0 ≡ id → ((q : ℕ) → q < length xs → get_or xs q 0 ≡ id → q ≡ p) →
    remove xs p ≡ filter (other_than id) xs
once_out id [] p less is once = absurd (omega (arith, less))
once_out id (x ∷ xs) zero less is once =
    sym (ap (λ b. cond (not b) (x ∷ filter (other_than id) xs) (filter (other_than id) xs)) (same_id x id is)
    ∙ none_out id xs (λ q less is. let same = once (suc q) (omega (arith, less)) is in omega (arith, same)))
once_out id (x ∷ xs) (suc p) less is once =
    ap (λ ys. x ∷ ys)
    (once_out id xs p (omega (arith, less)) is
    (λ q less is. let same = once (suc q) (omega (arith, less)) is in omega (arith, same)))
    ∙ sym (ap (λ b. cond (not b) (x ∷ filter (other_than id) xs) (filter (other_than id) xs))
    (differ x id (λ e. let same = once 0 (omega arith) e in omega (arith, same))))

-- an id somewhere in a list
abbrev pub StandsIn : List ℕ → ℕ → Type 0
StandsIn xs i = (q : ℕ) × (q < length xs) × (get_or xs q 0 ≡ i)

further : (x : ℕ) (xs : List ℕ) (i : ℕ) → StandsIn xs i → StandsIn (x ∷ xs) i
further x xs i s = let less = s.1 in (suc s.0, omega (arith, less), s.2)

maybe_further : (b : Bool) (x : ℕ) (xs : List ℕ) (i : ℕ) → StandsIn xs i → StandsIn (cond b (x ∷ xs) xs) i
maybe_further true x xs i s = further x xs i s
maybe_further false x xs i s = s

still_in : (id i : ℕ) (xs : List ℕ) (q : ℕ) → q < length xs → get_or xs q 0 ≡ i → (i ≡ id → ⊥) → StandsIn (filter (other_than id) xs) i
still_in id i [] q less is never = absurd (omega (arith, less))
still_in id i (x ∷ xs) zero less is never =
    subst (λ b. StandsIn (cond (not b) (x ∷ filter (other_than id) xs) (filter (other_than id) xs)) i) (sym (differ x id (λ e. never (sym is ∙ e))))
    (0, omega arith, is)
still_in id i (x ∷ xs) (suc q) less is never =
    maybe_further (other_than id x) x (filter (other_than id) xs) i (still_in id i xs q (omega (arith, less)) is never)

longer : (xs : List ℕ) (id q : ℕ) → q < length xs → q < length (xs ++ id ∷ [])
longer xs id q less = let long = length-append xs (id ∷ []) in omega (arith, long, less)

added_in : (end : End) (id i : ℕ) (xs : List ℕ) → StandsIn xs i → StandsIn (added end id xs) i
added_in top id i xs s =
    let less = s.1 in
    (s.0, longer xs id s.0 less, get_or-append xs (id ∷ []) 0 s.0 less ∙ s.2)
added_in bottom id i xs s = further id xs i s

-- WHAT IS ADDED AT AN END

all_added-nil : (end : End) (list : List ℕ) → all_added end [] list ≡ list
all_added-nil top list = append-nil list
all_added-nil bottom list = refl

all_added-cons : (end : End) (id : ℕ) (ids list : List ℕ) → all_added end ids (added end id list) ≡ all_added end (id ∷ ids) list
all_added-cons top id ids list = append_assoc list (id ∷ []) ids
all_added-cons bottom id ids list = sym (ap (λ xs. xs ++ list) (reverse-append (id ∷ []) ids) ∙ append_assoc (reverse ids) (id ∷ []) list)

all_added-one : (end : End) (id : ℕ) (list : List ℕ) → added end id list ≡ all_added end (id ∷ []) list
all_added-one top id list = refl
all_added-one bottom id list = refl

-- an id that is none of these
abbrev pub IsNone : ℕ → List ℕ → Type 0
IsNone id [] = Unit {0}
IsNone id (i ∷ ids) = (i ≡ id → ⊥) × IsNone id ids

filter-added : (end : End) (i id : ℕ) (list : List ℕ) → (i ≡ id → ⊥) → filter (other_than i) (added end id list) ≡ added end id (filter (other_than i) list)
filter-added top i id list never =
    filter-append (other_than i) list (id ∷ [])
    ∙ ap (λ b. filter (other_than i) list ++ cond (not b) (id ∷ []) []) (differ id i (λ e. never (sym e)))
filter-added bottom i id list never =
    ap (λ b. cond (not b) (id ∷ filter (other_than i) list) (filter (other_than i) list)) (differ id i (λ e. never (sym e)))

left_out-added : (end : End) (id : ℕ) (ids list : List ℕ) → IsNone id ids → left_out ids (added end id list) ≡ added end id (left_out ids list)
left_out-added end id [] list none = refl
left_out-added end id (i ∷ ids) list none =
    ap (left_out ids) (filter-added end i id list none.0) ∙ left_out-added end id ids (filter (other_than i) list) none.1

-- RUNS

module _ (end : End) (from loc : ℕ) where
  abbrev set_twice : ℕ → List ℕ → List (List ℕ) → List (List ℕ)
  set_twice at ids out = set out at (all_added end ids (get_or out at []))

  moved_none : (lists : List (List ℕ)) → run_moved end from loc [] lists ≡ lists
  moved_none lists =
      ap (λ out. set out loc (all_added end [] (get_or out loc []))) (set-get_or lists from [])
      ∙ ap (set lists loc) (all_added-nil end (get_or lists loc [])) ∙ set-get_or lists loc []

  -- one after another
  moved_more : (lists : List (List ℕ)) (id : ℕ) (ids : List ℕ) → from < length lists → loc < length lists → IsNone id ids →
      run_moved end from loc ids (run_moved end from loc (id ∷ []) lists) ≡ run_moved end from loc (id ∷ ids) lists
  moved_more lists id ids within within' none = elim (cases_eq from loc) [
    | inl same ↦
        let list = filter (other_than id) (get_or lists from []) in
        let here : get_or (set lists from list) from [] ≡ list = get_or-set_same lists from list [] within in
        let one : run_moved end from from (id ∷ []) lists ≡ set lists from (added end id list) =
        ap (λ xs. set (set lists from list) from (all_added end (id ∷ []) xs)) here ∙ set-set lists from list (all_added end (id ∷ []) list)
        ∙ ap (set lists from) (sym (all_added-one end id list)) in
        let rest = left_out ids list in
        let there : (xs : List ℕ) → get_or (set lists from xs) from [] ≡ xs = λ xs. get_or-set_same lists from xs [] within in
        let two : run_moved end from from ids (set lists from (added end id list)) ≡ set lists from (all_added end ids (added end id rest)) =
        ap (λ xs. set_twice from ids (set (set lists from (added end id list)) from (left_out ids xs))) (there (added end id list))
        ∙ ap (set_twice from ids) (set-set lists from (added end id list) (left_out ids (added end id list)))
        ∙ ap (λ xs. set_twice from ids (set lists from xs)) (left_out-added end id ids list none)
        ∙ ap (λ xs. set (set lists from (added end id rest)) from (all_added end ids xs)) (there (added end id rest))
        ∙ set-set lists from (added end id rest) (all_added end ids (added end id rest)) in
        let all : run_moved end from from (id ∷ ids) lists ≡ set lists from (all_added end (id ∷ ids) rest) =
        ap (λ xs. set (set lists from rest) from (all_added end (id ∷ ids) xs)) (there rest) ∙ set-set lists from rest (all_added end (id ∷ ids) rest) in
        subst (λ loc. run_moved end from loc ids (run_moved end from loc (id ∷ []) lists) ≡ run_moved end from loc (id ∷ ids) lists) same
        (ap (run_moved end from from ids) one ∙ two ∙ ap (set lists from) (all_added-cons end id ids rest) ∙ sym all)
    | inr other ↦
        let list = filter (other_than id) (get_or lists from []) in
        let old = get_or lists loc [] in
        let rest = left_out ids list in
        let there : (xs : List ℕ) → get_or (set lists from xs) loc [] ≡ old = λ xs. get_or-set_other lists from loc xs [] (λ e. other (sym e)) in
        let one : run_moved end from loc (id ∷ []) lists ≡ set (set lists from list) loc (added end id old) =
        ap (λ xs. set (set lists from list) loc (all_added end (id ∷ []) xs)) (there list)
        ∙ ap (set (set lists from list) loc) (sym (all_added-one end id old)) in
        let now = set (set lists from list) loc (added end id old) in
        let here : get_or now from [] ≡ list =
        get_or-set_other (set lists from list) loc from (added end id old) [] other ∙ get_or-set_same lists from list [] within in
        let out : set now from rest ≡ set (set lists from rest) loc (added end id old) =
        ap (λ xs. set xs from rest) (set_comm lists from loc list (added end id old) other)
        ∙ set-set (set lists loc (added end id old)) from list rest
        ∙ sym (set_comm lists from loc rest (added end id old) other) in
        let long = length-set lists from rest in
        let two : run_moved end from loc ids now ≡ set (set lists from rest) loc (all_added end ids (added end id old)) =
        ap (λ xs. set_twice loc ids (set now from (left_out ids xs))) here
        ∙ ap (set_twice loc ids) out
        ∙ ap (λ xs. set (set (set lists from rest) loc (added end id old)) loc (all_added end ids xs))
        (get_or-set_same (set lists from rest) loc (added end id old) [] (omega (arith, long, within')))
        ∙ set-set (set lists from rest) loc (added end id old) (all_added end ids (added end id old)) in
        let all : run_moved end from loc (id ∷ ids) lists ≡ set (set lists from rest) loc (all_added end (id ∷ ids) old) =
        ap (λ xs. set (set lists from rest) loc (all_added end (id ∷ ids) xs)) (there rest) in
        ap (run_moved end from loc ids) one ∙ two ∙ ap (set (set lists from rest) loc) (all_added-cons end id ids old) ∙ sym all
  ]

-- ids that stand in a list
abbrev pub AllStandIn : List ℕ → List ℕ → Type 0
AllStandIn list [] = Unit {0}
AllStandIn list (id ∷ ids) = StandsIn list id × AllStandIn list ids

abbrev pub AreApart : List ℕ → Type 0
AreApart [] = Unit {0}
AreApart (id ∷ ids) = IsNone id ids × AreApart ids

-- the list that ids come from, after one of them went
after_one : (end : End) (from loc id i : ℕ) (lists : List (List ℕ)) → from < length lists → StandsIn (get_or lists from []) i → (i ≡ id → ⊥) →
    StandsIn (get_or (run_moved end from loc (id ∷ []) lists) from []) i
after_one end from loc id i lists within s never =
    let list = filter (other_than id) (get_or lists from []) in
    let stays = still_in id i (get_or lists from []) s.0 s.1 s.2 never in
    let out = set lists from list in
    let here : get_or out from [] ≡ list = get_or-set_same lists from list [] within in
    let long = length-set lists from list in
    elim (cases_eq from loc) [
      | inl same ↦
          subst (λ xs. StandsIn xs i)
          (sym (ap (λ xs. get_or (set out loc (all_added end (id ∷ []) xs)) from []) (ap (λ n. get_or out n []) (sym same) ∙ here)
          ∙ ap (λ n. get_or (set out n (all_added end (id ∷ []) list)) from []) (sym same)
          ∙ get_or-set_same out from (all_added end (id ∷ []) list) [] (omega (arith, within, long))
          ∙ sym (all_added-one end id list)))
          (added_in end id i list stays)
      | inr other ↦
          subst (λ xs. StandsIn xs i) (sym (get_or-set_other out loc from (all_added end (id ∷ []) (get_or out loc [])) [] other ∙ here)) stays
    ]

after_one_all : (end : End) (from loc id : ℕ) (ids : List ℕ) (lists : List (List ℕ)) → from < length lists → AllStandIn (get_or lists from []) ids → IsNone id ids →
    AllStandIn (get_or (run_moved end from loc (id ∷ []) lists) from []) ids
after_one_all end from loc id [] lists within all none = tt
after_one_all end from loc id (i ∷ ids) lists within all none =
    (after_one end from loc id i lists within all.0 none.0, after_one_all end from loc id ids lists within all.1 none.1)

-- one that is put there, by its place
put_as : (shape : Shape) (e : End) (loc : ℕ) (table : Table) (id : ℕ) (from p : ℕ) → place_of shape table id ≡ (from, p) → (list : List ℕ) →
    remove (list_at table from) p ≡ list →
    put shape e id loc table
    ≡ record {
      lists = set (set table.lists from list) loc (all_added e (id ∷ []) (get_or (set table.lists from list) loc []));
      numbers = table.numbers;
      marks = set table.marks id [];
    }
put_as shape top loc table id from p there list is =
    ap (λ (at : ℕ × ℕ). set_marks id [] (onto id loc (with_list table at.0 (remove (list_at table at.0) at.1)))) there
    ∙ ap (λ xs. set_marks id [] (onto id loc (with_list table from xs))) is
put_as shape bottom loc table id from p there list is =
    ap (λ (at : ℕ × ℕ). set_marks id [] (under id loc (with_list table at.0 (remove (list_at table at.0) at.1)))) there
    ∙ ap (λ xs. set_marks id [] (under id loc (with_list table from xs))) is

module _ (keeps : PutKeepsSound) (shape : Shape) (end : End) (from loc : ℕ) (cards : HoldsCards shape from) (holds : HoldsCards shape loc) where
  put_sound : (e : End) (table : Table) (id : ℕ) → IsSound shape table → id < length shape.faces → IsSound shape (put shape e id loc table)
  put_sound top table id sound card = (keeps shape table id loc sound card holds).0
  put_sound bottom table id sound card = (keeps shape table id loc sound card holds).1

  one_here : (table : Table) → IsSound shape table → (id : ℕ) → StandsIn (list_at table from) id → id < length shape.faces
  one_here table sound id s = subst (λ i. i < length shape.faces) s.2 (is_card shape table sound from s.0 cards s.1)

  -- one that is put there
  put_one : (e : End) (table : Table) → IsSound shape table → (id : ℕ) → StandsIn (list_at table from) id → put shape e id loc table ≡ run_put e from loc (id ∷ []) table
  put_one e table sound id s =
      let p = s.0 in
      let there : place_of shape table id ≡ (from, p) = ap (place_of shape table) (sym s.2) ∙ stands_there shape table sound from p cards s.1 in
      let out = once_out id (list_at table from) p s.1 s.2 (λ q less is. (one_place shape table sound id from from q p cards cards less s.1 is s.2).1) in
      put_as shape e loc table id from p there (filter (other_than id) (list_at table from)) out

  both : (ids : List ℕ) (table : Table) → IsSound shape table → AllStandIn (list_at table from) ids → AreApart ids →
      (put_each shape end loc ids table ≡ run_put end from loc ids table) × IsSound shape (run_put end from loc ids table)
  both [] table sound all apart =
      let same : run_put end from loc [] table ≡ table =
      ap (λ (lists : List (List ℕ)). record { lists = lists; numbers = table.numbers; marks = table.marks }) (moved_none end from loc table.lists) in
      (sym same, subst (IsSound shape) (sym same) sound)
  both (id ∷ ids) table sound all apart =
      let card = one_here table sound id all.0 in
      let one = put_one end table sound id all.0 in
      let sound' = subst (IsSound shape) one (put_sound end table id sound card) in
      let count = sound.locations in
      let within = slice_get_within shape.places from cards.0 cards.1 in
      let within' = slice_get_within shape.places loc holds.0 holds.1 in
      let stand = after_one_all end from loc id ids table.lists (omega (arith, within, count)) all.1 apart.0 in
      let rest = both ids (run_put end from loc (id ∷ []) table) sound' stand apart.1 in
      let more : run_put end from loc ids (run_put end from loc (id ∷ []) table) ≡ run_put end from loc (id ∷ ids) table =
      ap (λ (lists : List (List ℕ)). record { lists = lists; numbers = table.numbers; marks = cleared (id ∷ ids) table.marks })
      (moved_more end from loc table.lists id ids (omega (arith, within, count)) (omega (arith, within', count)) apart.0) in
      (ap (put_each shape end loc ids) one ∙ rest.0 ∙ more, subst (IsSound shape) more rest.1)

  pub each_is_run : (ids : List ℕ) (table : Table) → IsSound shape table → AllStandIn (list_at table from) ids → AreApart ids →
      put_each shape end loc ids table ≡ run_put end from loc ids table
  each_is_run ids table sound all apart = (both ids table sound all apart).0

  pub run_sound : (ids : List ℕ) (table : Table) → IsSound shape table → AllStandIn (list_at table from) ids → AreApart ids →
      IsSound shape (run_put end from loc ids table)
  run_sound ids table sound all apart = (both ids table sound all apart).1

-- FLAGS

-- an id whose flag is set is none of those that are fresh
fresh_none : (flags : List Bool) (id : ℕ) (ids : List ℕ) → is_free flags id ≡ false → AreFresh flags ids → IsNone id ids
fresh_none flags id [] set fresh = tt
fresh_none flags id (i ∷ ids) taken fresh =
    let never : i ≡ id → ⊥ = λ e. true≢false (sym fresh.0 ∙ ap (is_free flags) e ∙ taken) in (
      never,
      fresh_none (set flags i true) id ids (ap not (get_or-set_other flags i id true false (λ e. never (sym e))) ∙ taken) fresh.1,
    )

pub fresh_apart : (flags : List Bool) (ids : List ℕ) → All (λ id. id < length flags) ids → AreFresh flags ids → AreApart ids
fresh_apart flags [] all fresh = tt
fresh_apart flags (id ∷ ids) all fresh =
    let each = recursion_from_All (λ id. id < length flags) (id ∷ ids) all in
    let long = length-set flags id true in (
      fresh_none (set flags id true) id ids (ap not (get_or-set_same flags id true false each.0)) fresh.1,
      fresh_apart (set flags id true) ids (subst (λ n. All (λ id. id < n) ids) (sym long) (All-from_recursion (λ id. id < length flags) ids each.1)) fresh.1,
    )

-- one more
pub flagged-push : (ids : List ℕ) (id : ℕ) (flags : List Bool) → flagged (ids ++ id ∷ []) flags ≡ set (flagged ids flags) id true
flagged-push [] id flags = refl
flagged-push (i ∷ ids) id flags = flagged-push ids id (set flags i true)

pub fresh-push : (flags : List Bool) (ids : List ℕ) (id : ℕ) → AreFresh flags ids → is_free (flagged ids flags) id ≡ true → AreFresh flags (ids ++ id ∷ [])
fresh-push flags [] id fresh free = (free, tt)
fresh-push flags (i ∷ ids) id fresh free = (fresh.0, fresh-push (set flags i true) ids id fresh.1 free)

pub length-flagged : (ids : List ℕ) (flags : List Bool) → length (flagged ids flags) ≡ length flags
length-flagged [] flags = refl
length-flagged (id ∷ ids) flags = length-flagged ids (set flags id true) ∙ length-set flags id true

-- what isn't flagged is what is left
both_filters : (id x : ℕ) (rest : List ℕ) (a b : Bool) → (x == id) ≡ b →
    filter (other_than id) (cond (not a) (x ∷ rest) rest) ≡ cond (not (b || a)) (x ∷ filter (other_than id) rest) (filter (other_than id) rest)
both_filters id x rest true true e = refl
both_filters id x rest true false e = refl
both_filters id x rest false true e = ap (λ b. cond (not b) (x ∷ filter (other_than id) rest) (filter (other_than id) rest)) e
both_filters id x rest false false e = ap (λ b. cond (not b) (x ∷ filter (other_than id) rest) (filter (other_than id) rest)) e

flag_set : (flags : List Bool) (id x : ℕ) → id < length flags → get_or (set flags id true) x false ≡ ((x == id) || get_or flags x false)
flag_set flags id x within = elim (cases_eq x id) [
  | inl same ↦
      ap (λ n. get_or (set flags id true) n false) same ∙ get_or-set_same flags id true false within
      ∙ sym (ap (λ b. b || get_or flags x false) (same_id x id same))
  | inr other ↦ get_or-set_other flags id x true false other ∙ sym (ap (λ b. b || get_or flags x false) (differ x id other))
]

free_set : (flags : List Bool) (id : ℕ) (list : List ℕ) → id < length flags →
    filter (other_than id) (filter (is_free flags) list) ≡ filter (is_free (set flags id true)) list
free_set flags id [] within = refl
free_set flags id (x ∷ list) within =
    let rest = filter (is_free flags) list in
    both_filters id x rest (get_or flags x false) (x == id) refl
    ∙ ap (λ b. cond (not b) (x ∷ filter (other_than id) rest) (filter (other_than id) rest)) (sym (flag_set flags id x within))
    ∙ ap (λ xs. cond (is_free (set flags id true) x) (x ∷ xs) xs) (free_set flags id list within)

pub left_is_free : (ids : List ℕ) (flags : List Bool) (list : List ℕ) → All (λ id. id < length flags) ids →
    left_out ids (filter (is_free flags) list) ≡ filter (is_free (flagged ids flags)) list
left_is_free [] flags list all = refl
left_is_free (id ∷ ids) flags list all =
    let each = recursion_from_All (λ id. id < length flags) (id ∷ ids) all in
    let long = length-set flags id true in
    ap (left_out ids) (free_set flags id list each.0)
    ∙ left_is_free ids (set flags id true) list (subst (λ n. All (λ id. id < n) ids) (sym long) (All-from_recursion (λ id. id < length flags) ids each.1))

none_set : (n x : ℕ) → get_or (replicate n false) x false ≡ false
none_set n x = elim (cases_lt x n) [
  | inl within ↦ get_or-replicate n x false false within
  | inr past ↦ let long = length-replicate n false in get_or_past (replicate n false) x false (omega (arith, long, past))
]

pub all_free : (n : ℕ) (list : List ℕ) → filter (is_free (replicate n false)) list ≡ list
all_free n [] = refl
all_free n (x ∷ list) =
    ap (λ b. cond (not b) (x ∷ filter (is_free (replicate n false)) list) (filter (is_free (replicate n false)) list)) (none_set n x)
    ∙ ap (λ xs. x ∷ xs) (all_free n list)
