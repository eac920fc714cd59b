-- Where only the locations that hide cards are filled anew, all locations hold what the view and the new order give them.
use Rattle.std.proofs.Common.{Option, Some, None, nat_lt, ◌≡◌, ℕ, suc, ◌+◌, ◌≤◌, if◌then◌else◌, Bool, true, false, List, [], ◌∷◌, ◌++◌, length, take, drop, get_or, set, refl, sym, ap, ap₂, ◌∙◌, subst, arith, append_assoc, length-append}
use Rattle.std.proofs.lemmas.List.Sorted.{IsPermutation-refl}
use Rattle.std.proofs.Math.Seq.{take-append_seam, drop-append_seam}
use Rattle.std.proofs.lemmas.Bool.{ltb-false}
use Rattle.std.proofs.lemmas.List.{get_or_at, set_at, length-drop}
use Rattle.rc_play_spec.specs.Shape.{Shape}
use Rattle.rc_play_spec.specs.Table.{Table, IsSound}
use Rattle.rc_play_spec.specs.View.{Sight, with_faces, partly, View, view_of}
use Rattle.rc_play_spec.specs.Draws.{permuted}
use Rattle.rc_play_spec.specs.Redraw.{known_faces, unknown, mixed, mems_of, hidden_count, seen_faces, filled, seen_of, unused, marks_seen, redrawn, redraw}
use Rattle.rc_play_spec.specs.RedrawLaws.{IsViewOfSound}
use Rattle.rc_play_spec.proofs.Filled.{mixed-length}
use Rattle.rc_play_spec.proofs.Redrawn.{redrawn-sound}
use Rattle.rc_table.specs.Refilled.{CanRefill, lists_refilled, refilled}
use Rattle.rc_redraw.specs.Hiding.{hiding_from, pattern_at, pattern_of, patterns, blended, spread, blanks}
use Rattle.rc_redraw.specs.Redraws.{Redrawn, Keeps}
use Rattle.rc_redraw.proofs.Blends.{spread_is, blanks-append}

record Refills (locs ids : List ℕ) (old new : List (List ℕ)) : Type 0 where
  can : CanRefill locs ids old
  is : lists_refilled locs ids old ≡ new

-- what is past the places hides nothing
none_past : (sights : List Sight) (seen hidden hidden' : List ℕ) → filled [] sights seen hidden ≡ filled [] sights seen hidden'
none_past [] seen hidden hidden' = refl
none_past (sight ∷ sights) seen hidden hidden' = ap (λ lists. [] ∷ lists) (none_past sights seen hidden hidden')

-- one location that stays
stays : (front : List (List ℕ)) (ids : List ℕ) (rest rest' : List (List ℕ)) (locs new : List ℕ) →
    Refills locs new ((front ++ ids ∷ []) ++ rest) ((front ++ ids ∷ []) ++ rest') → Refills locs new (front ++ ids ∷ rest) (front ++ ids ∷ rest')
stays front ids rest rest' locs new refills =
    let same = append_assoc front (ids ∷ []) rest in
    record {
      can = subst (CanRefill locs new) same refills.can;
      is = ap (lists_refilled locs new) (sym same) ∙ refills.is ∙ append_assoc front (ids ∷ []) rest';
    }

-- one location that is filled anew with the first of the ids
changes : (front : List (List ℕ)) (old ids tail : List ℕ) (rest rest' : List (List ℕ)) (locs : List ℕ) (loc : ℕ) → length front ≡ loc →
    length old ≡ length ids → Refills locs tail (front ++ ids ∷ rest) (front ++ ids ∷ rest') →
    Refills (loc ∷ locs) (ids ++ tail) (front ++ old ∷ rest) (front ++ ids ∷ rest')
changes front old ids tail rest rest' locs loc at long refills =
    let lists = front ++ old ∷ rest in
    let here = ap length (get_or_at front old rest [] loc at) ∙ long in
    let count = length-append front (old ∷ rest) in
    let first = ap (λ k. take k (ids ++ tail)) here ∙ take-append_seam ids tail in
    let left = ap (λ k. drop k (ids ++ tail)) here ∙ drop-append_seam ids tail in
    let put = ap (set lists loc) first ∙ set_at front old rest ids loc at in
    let more = length-append ids tail in
    record {
      can = (
        omega (arith, count, at),
        omega (arith, here, more),
        subst (λ lists. CanRefill locs (drop (length (get_or (front ++ old ∷ rest) loc [])) (ids ++ tail)) lists) (sym put)
            (subst (λ ids'. CanRefill locs ids' (front ++ ids ∷ rest)) (sym left) refills.can),
      );
      is = ap₂ (lists_refilled locs) left put ∙ refills.is;
    }

-- a pattern and more behind it
blend : (os : List (Option ℕ)) (seen hidden : List ℕ) (rest : List (Option ℕ)) → length (known_faces os) ≤ length seen → unknown os ≤ length hidden →
    blended (pattern_at os seen ++ rest) hidden ≡ mixed os seen hidden ++ blended rest (drop (unknown os) hidden)
blend [] seen hidden rest l l' = refl
blend (Some f ∷ os) [] hidden rest l l' = absurd (omega (arith, l))
blend (Some f ∷ os) (id ∷ seen) hidden rest l l' = ap (λ ids. id ∷ ids) (blend os seen hidden rest (omega (arith, l)) l')
blend (None ∷ os) seen [] rest l l' = absurd (omega (arith, l'))
blend (None ∷ os) seen (id ∷ hidden) rest l l' = ap (λ ids. id ∷ ids) (blend os seen hidden rest l (omega (arith, l')))

-- where all places are known nothing changes
none_mixed : (os : List (Option ℕ)) (seen old new : List ℕ) → unknown os ≡ 0 → mixed os seen old ≡ mixed os seen new
none_mixed [] seen old new e = refl
none_mixed (Some f ∷ os) [] old new e = refl
none_mixed (Some f ∷ os) (id ∷ seen) old new e = ap (λ ids. id ∷ ids) (none_mixed os seen old new e)
none_mixed (None ∷ os) seen old new e = absurd (omega (arith, e))

one_further : (front : List (List ℕ)) (ids : List ℕ) (loc : ℕ) → length front ≡ loc → length (front ++ ids ∷ []) ≡ loc + 1
one_further front ids loc at = let long = length-append front (ids ∷ []) in omega (arith, long, at)

abbrev Rest : List Bool → List Sight → Type 0
Rest mems sights =
    (front : List (List ℕ)) (loc : ℕ) (seen old new : List ℕ) → length front ≡ loc → length (seen_faces mems sights) ≤ length seen →
    hidden_count mems sights ≤ length old → hidden_count mems sights ≤ length new →
    Refills (hiding_from loc mems sights) (blended (patterns mems sights seen) new) (front ++ filled mems sights seen old) (front ++ filled mems sights seen new)

-- a location that isn't seen, where the rest is done
at_partly : (mems : List Bool) (sights : List Sight) (rest : Rest mems sights) (front : List (List ℕ)) (loc : ℕ) (seen old new : List ℕ) → length front ≡ loc → (os : List (Option ℕ)) →
    length (known_faces os ++ seen_faces mems sights) ≤ length seen → unknown os + hidden_count mems sights ≤ length old →
    unknown os + hidden_count mems sights ≤ length new → (b : Bool) → nat_lt 0 (unknown os) ≡ b →
    Refills ((if b then loc ∷ [] else []) ++ hiding_from (loc + 1) mems sights)
    (blended ((if b then pattern_at os seen else []) ++ patterns mems sights (drop (length (known_faces os)) seen)) new)
    (front ++ mixed os seen old ∷ filled mems sights (drop (length (known_faces os)) seen) (drop (unknown os) old))
    (front ++ mixed os seen new ∷ filled mems sights (drop (length (known_faces os)) seen) (drop (unknown os) new))
at_partly mems sights rest front loc seen old new at os known enough enough' false none =
    let zero' : unknown os ≡ 0 = omega (arith, ltb-false 0 (unknown os) none) in
    let n = length (known_faces os) in
    let all = length-append (known_faces os) (seen_faces mems sights) in
    let left = length-drop n seen in
    let ids = mixed os seen new in
    subst (λ k. Refills (hiding_from (loc + 1) mems sights) (blended (patterns mems sights (drop n seen)) new)
    (front ++ mixed os seen old ∷ filled mems sights (drop n seen) (drop k old)) (front ++ ids ∷ filled mems sights (drop n seen) (drop k new))) (sym zero')
    (subst (λ ids'. Refills (hiding_from (loc + 1) mems sights) (blended (patterns mems sights (drop n seen)) new)
    (front ++ ids' ∷ filled mems sights (drop n seen) old) (front ++ ids ∷ filled mems sights (drop n seen) new)) (none_mixed os seen new old zero')
    (stays front ids _ _ _ _ (rest (front ++ ids ∷ []) (loc + 1) (drop n seen) old new (one_further front ids loc at)
    (omega (arith, known, all, left)) (omega (arith, enough)) (omega (arith, enough')))))
at_partly mems sights rest front loc seen old new at os known enough enough' true some =
    let n = length (known_faces os) in
    let k = unknown os in
    let all = length-append (known_faces os) (seen_faces mems sights) in
    let left = length-drop n seen in
    let less = length-drop k old in
    let less' = length-drop k new in
    let ids = mixed os seen new in
    let seen-enough : n ≤ length seen = omega (arith, known, all) in
    let long = mixed-length os seen old seen-enough (omega (arith, enough)) ∙ sym (mixed-length os seen new seen-enough (omega (arith, enough'))) in
    subst (λ content. Refills (loc ∷ hiding_from (loc + 1) mems sights) content
    (front ++ mixed os seen old ∷ filled mems sights (drop n seen) (drop k old)) (front ++ ids ∷ filled mems sights (drop n seen) (drop k new)))
    (sym (blend os seen new (patterns mems sights (drop n seen)) seen-enough (omega (arith, enough'))))
    (changes front (mixed os seen old) ids (blended (patterns mems sights (drop n seen)) (drop k new)) _ _ _ loc at long
    (stays front ids _ _ _ _ (rest (front ++ ids ∷ []) (loc + 1) (drop n seen) (drop k old) (drop k new) (one_further front ids loc at)
    (omega (arith, known, all, left)) (omega (arith, enough, less)) (omega (arith, enough', less')))))

refills : (mems : List Bool) (sights : List Sight) (front : List (List ℕ)) (loc : ℕ) (seen old new : List ℕ) → length front ≡ loc →
    length (seen_faces mems sights) ≤ length seen → hidden_count mems sights ≤ length old → hidden_count mems sights ≤ length new →
    Refills (hiding_from loc mems sights) (blended (patterns mems sights seen) new) (front ++ filled mems sights seen old) (front ++ filled mems sights seen new)
refills mems [] front loc seen old new at known enough enough' = record { can = tt; is = refl }
refills [] (sight ∷ sights) front loc seen old new at known enough enough' =
    record { can = tt; is = ap (λ lists. front ++ [] ∷ lists) (none_past sights seen old new) }
refills (true ∷ mems) (with_faces fs ∷ sights) front loc seen old new at known enough enough' =
    stays front fs _ _ _ _ (refills mems sights (front ++ fs ∷ []) (loc + 1) seen old new (one_further front fs loc at) known (omega (arith, enough)) (omega (arith, enough')))
refills (true ∷ mems) (partly os ∷ sights) front loc seen old new at known enough enough' =
    stays front [] _ _ _ _ (refills mems sights (front ++ [] ∷ []) (loc + 1) seen old new (one_further front [] loc at) known (omega (arith, enough)) (omega (arith, enough')))
refills (false ∷ mems) (with_faces fs ∷ sights) front loc seen old new at known enough enough' =
    let ids = take (length fs) seen in
    let all = length-append fs (seen_faces mems sights) in
    let left = length-drop (length fs) seen in
    stays front ids _ _ _ _
    (refills mems sights (front ++ ids ∷ []) (loc + 1) (drop (length fs) seen) old new (one_further front ids loc at) (omega (arith, known, all, left)) (omega (arith, enough)) (omega (arith, enough')))
refills (false ∷ mems) (partly os ∷ sights) front loc seen old new at known enough enough' =
    at_partly mems sights (λ front loc seen old new. refills mems sights front loc seen old new) front loc seen old new at os known enough enough' (nat_lt 0 (unknown os)) refl

-- a pattern has as many other places as there are
pattern-blanks : (os : List (Option ℕ)) (seen : List ℕ) → length (known_faces os) ≤ length seen → blanks (pattern_at os seen) ≡ unknown os
pattern-blanks [] seen l = refl
pattern-blanks (Some f ∷ os) [] l = absurd (omega (arith, l))
pattern-blanks (Some f ∷ os) (id ∷ seen) l = pattern-blanks os seen (omega (arith, l))
pattern-blanks (None ∷ os) seen l = ap suc (pattern-blanks os seen l)

partly-blanks : (os : List (Option ℕ)) (seen : List ℕ) → length (known_faces os) ≤ length seen → (b : Bool) → nat_lt 0 (unknown os) ≡ b →
    blanks (if b then pattern_at os seen else []) ≡ unknown os
partly-blanks os seen l true e = pattern-blanks os seen l
partly-blanks os seen l false e = let none = ltb-false 0 (unknown os) e in omega (arith, none)

pub patterns-blanks : (mems : List Bool) (sights : List Sight) (seen : List ℕ) → length (seen_faces mems sights) ≤ length seen →
    blanks (patterns mems sights seen) ≡ hidden_count mems sights
patterns-blanks mems [] seen l = refl
patterns-blanks [] (sight ∷ sights) seen l = refl
patterns-blanks (true ∷ mems) (with_faces fs ∷ sights) seen l = let h = patterns-blanks mems sights seen l in omega (arith, h)
patterns-blanks (true ∷ mems) (partly os ∷ sights) seen l = let h = patterns-blanks mems sights seen l in omega (arith, h)
patterns-blanks (false ∷ mems) (with_faces fs ∷ sights) seen l =
    let all = length-append fs (seen_faces mems sights) in
    let left = length-drop (length fs) seen in
    let h = patterns-blanks mems sights (drop (length fs) seen) (omega (arith, l, all, left)) in omega (arith, h)
patterns-blanks (false ∷ mems) (partly os ∷ sights) seen l =
    let all = length-append (known_faces os) (seen_faces mems sights) in
    let left = length-drop (length (known_faces os)) seen in
    let here = partly-blanks os seen (omega (arith, l, all)) (nat_lt 0 (unknown os)) refl in
    let rest = patterns-blanks mems sights (drop (length (known_faces os)) seen) (omega (arith, l, all, left)) in
    let both = blanks-append (pattern_of false (partly os) seen) (patterns mems sights (drop (length (known_faces os)) seen)) in
    omega (arith, here, rest, both)

module _ (shape : Shape) (view : View) (old new : List ℕ)
    (known : length (seen_faces (mems_of shape.places) view.sights) ≤ length (seen_of shape view))
    (enough : hidden_count (mems_of shape.places) view.sights ≤ length old)
    (enough' : hidden_count (mems_of shape.places) view.sights ≤ length new) where
  abbrev hiding : List ℕ
  hiding = hiding_from 0 (mems_of shape.places) view.sights

  abbrev content : List ℕ
  content = blended (patterns (mems_of shape.places) view.sights (seen_of shape view)) new

  pub can_refill : CanRefill hiding content (redrawn shape view old).lists
  can_refill = (refills (mems_of shape.places) view.sights [] 0 (seen_of shape view) old new refl known enough enough').can

  pub refilled_is : refilled hiding content (redrawn shape view old) ≡ redrawn shape view new
  refilled_is =
      ap (λ lists. record { lists = lists; numbers = view.numbers; marks = marks_seen shape view })
      (refills (mems_of shape.places) view.sights [] 0 (seen_of shape view) old new refl known enough enough').is

-- the table with the unused ids in ascending order
pub ascending_sound : (shape : Shape) (view : View) → IsViewOfSound shape view → IsSound shape (redrawn shape view (unused shape (seen_of shape view)))
ascending_sound shape view of =
    let seen = view_of shape view.seat of.0 view.control in
    let rest = unused shape (seen_of shape seen) in
    subst (λ view. IsSound shape (redrawn shape view (unused shape (seen_of shape view)))) (sym of.2)
    (redrawn-sound shape view.seat of.0 view.control of.1 rest (IsPermutation-refl rest))

-- what a key deals, by what is kept
pub dealt : (r : Redrawn) (key hidden : List ℕ) (pattern : List (Option ℕ)) (room rest order locs ids content : List ℕ) → Keeps r hidden pattern room rest order →
    length (seen_faces (mems_of r.shape.places) r.view.sights) ≤ length (seen_of r.shape r.view) →
    hidden_count (mems_of r.shape.places) r.view.sights ≡ length (unused r.shape (seen_of r.shape r.view)) →
    locs ≡ hidden → ids ≡ permuted key rest → length ids ≡ length rest → content ≡ spread pattern ids →
    CanRefill locs content r.table.lists × (refilled locs content r.table ≡ redraw r.shape r.view key)
dealt r key hidden pattern room rest order locs ids content kept known count locs_are ids_are long content_is =
    let places = locs_are ∙ kept.hiding in
    let each = ap length kept.rest in
    let blank = patterns-blanks (mems_of r.shape.places) r.view.sights (seen_of r.shape r.view) known in
    let all = content_is ∙ spread_is pattern _ ids kept.known (omega (arith, blank, count, each, long)) in
    let enough : hidden_count (mems_of r.shape.places) r.view.sights ≤ length order = omega (arith, count, each, kept.each) in
    let enough' : hidden_count (mems_of r.shape.places) r.view.sights ≤ length ids = omega (arith, count, each, long) in (
      subst (λ (table : Table). CanRefill locs content table.lists) (sym kept.is)
          (subst (λ locs. CanRefill locs content (redrawn r.shape r.view order).lists) (sym places)
          (subst (λ content. CanRefill (hiding_from 0 (mems_of r.shape.places) r.view.sights) content (redrawn r.shape r.view order).lists) (sym all)
          (can_refill r.shape r.view order ids known enough enough'))),
      ap₂ (λ locs table. refilled locs content table) places kept.is
          ∙ ap (λ content. refilled (hiding_from 0 (mems_of r.shape.places) r.view.sights) content (redrawn r.shape r.view order)) all
          ∙ refilled_is r.shape r.view order ids known enough enough'
          ∙ ap (redrawn r.shape r.view) (ids_are ∙ ap (permuted key) kept.rest),
    )
