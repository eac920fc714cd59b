-- A pattern in which no place is known becomes the ids, so it need not be kept.
use Rattle.std.proofs.Common.{Option, Some, None, ◌≡◌, ℕ, ◌+◌, ◌≤◌, ◌<◌, ◌||◌, nat_lt, if◌then◌else◌, Bool, true, false, List, [], ◌∷◌, ◌++◌, length, map, take, drop, refl, sym, ap, ◌∙◌, inl, inr, true≢false, length-append, arith}
use Rattle.std.specs.List.{list_any}
use Rattle.std.proofs.lemmas.Bool.{ltb-false}
use Rattle.rc_play_spec.specs.View.{partly}
use Rattle.rc_play_spec.specs.Redraw.{known_faces, unknown, peeked}
use Rattle.rc_view.specs.Seen.{sight_seen}
use Rattle.rc_view.specs.declared.sight.Sight.{Sight}
use Rattle.rc_view.specs.declared.sight.Sight.TheVariants.{Faces, Partly}
use Rattle.rc_redraw.specs.Hiding.{pattern_at, pattern_of, patterns, blended, spread, blanks, knows, IsKept}

blanks-le : (ps : List (Option ℕ)) → blanks ps ≤ length ps
blanks-le [] = omega arith
blanks-le (Some id ∷ ps) = let h = blanks-le ps in omega (arith, h)
blanks-le (None ∷ ps) = let h = blanks-le ps in omega (arith, h)

all_blank : (ps : List (Option ℕ)) (hidden : List ℕ) → blanks ps ≡ length hidden → length hidden ≡ length ps → blended ps hidden ≡ hidden
all_blank [] [] e len = refl
all_blank [] (id ∷ hidden) e len = absurd (omega (arith, len))
all_blank (Some id ∷ ps) hidden e len = let h = blanks-le ps in absurd (omega (arith, e, len, h))
all_blank (None ∷ ps) [] e len = absurd (omega (arith, len))
all_blank (None ∷ ps) (id ∷ hidden) e len = ap (λ ids. id ∷ ids) (all_blank ps hidden (omega (arith, e)) (omega (arith, len)))

-- what is spread over a kept pattern is what the whole one becomes
whole : (ps : List (Option ℕ)) (ids : List ℕ) → blanks ps ≡ length ids → spread ps ids ≡ blended ps ids
whole [] [] e = refl
whole [] (id ∷ ids) e = absurd (omega (arith, e))
whole (p ∷ ps) ids e = refl

pub spread_is : (kept ps : List (Option ℕ)) (ids : List ℕ) → IsKept kept ps → blanks ps ≡ length ids →
    spread kept ids ≡ blended ps ids
spread_is kept ps ids (inl same) e = ap (λ ps. spread ps ids) same ∙ whole ps ids e
spread_is kept ps ids (inr none) e =
    let blank = none.1 in ap (λ ps. spread ps ids) none.0 ∙ sym (all_blank ps ids e (omega (arith, e, blank)))

-- where it is kept, it has as many other places
pub kept_exact : (kept ps : List (Option ℕ)) (n : ℕ) → IsKept kept ps → blanks ps ≡ n → 0 < length kept →
    blanks kept ≡ n
kept_exact kept ps n (inl same) e some = ap blanks same ∙ e
kept_exact kept ps n (inr none) e some = let no = ap length none.0 in absurd (omega (arith, some, no))

pub spread_none : (ps : List (Option ℕ)) (ids : List ℕ) → length ps ≡ 0 → spread ps ids ≡ ids
spread_none [] ids e = refl
spread_none (p ∷ ps) ids e = absurd (omega (arith, e))

pub spread_some : (ps : List (Option ℕ)) (ids : List ℕ) → 0 < length ps → spread ps ids ≡ blended ps ids
spread_some [] ids some = absurd (omega (arith, some))
spread_some (p ∷ ps) ids some = refl

pub blanks-append : (ps qs : List (Option ℕ)) → blanks (ps ++ qs) ≡ blanks ps + blanks qs
blanks-append [] qs = omega arith
blanks-append (Some id ∷ ps) qs = blanks-append ps qs
blanks-append (None ∷ ps) qs = let h = blanks-append ps qs in omega (arith, h)

-- where no place is known, no place of the pattern is
all_other : (os : List (Option ℕ)) (seen : List ℕ) → length (known_faces os) ≤ 0 →
    blanks (pattern_at os seen) ≡ length (pattern_at os seen)
all_other [] seen none = refl
all_other (Some f ∷ os) seen none = absurd (omega (arith, none))
all_other (None ∷ os) seen none = let h = all_other os seen none in omega (arith, h)

other_if : (os : List (Option ℕ)) (seen : List ℕ) → length (known_faces os) ≤ 0 → (b : Bool) →
    blanks (if b then pattern_at os seen else []) ≡ length (if b then pattern_at os seen else [])
other_if os seen none true = all_other os seen none
other_if os seen none false = refl

neither : (n : ℕ) (b c : Bool) → nat_lt 0 n ≡ b → (b || c) ≡ false → (n ≤ 0) × (c ≡ false)
neither n true c is e = absurd (true≢false e)
neither n false c is e = (ltb-false 0 n is, e)

-- where no place is known, no card is
pub none_peeked : (mems : List Bool) (sights : List Sight) (seen : List ℕ) →
    list_any (λ sight. knows (sight_seen sight)) sights ≡ false → peeked mems (map sight_seen sights) seen ≡ []
none_peeked mems [] seen e = refl
none_peeked [] (sight ∷ sights) seen e = refl
none_peeked (true ∷ mems) (Faces fs ∷ sights) seen e = none_peeked mems sights seen e
none_peeked (true ∷ mems) (Partly os ∷ sights) seen e =
    none_peeked mems sights seen (neither (length (known_faces os.items)) _ _ refl e).1
none_peeked (false ∷ mems) (Faces fs ∷ sights) seen e = none_peeked mems sights (drop (length fs.items) seen) e
none_peeked (false ∷ mems) (Partly os ∷ sights) seen e =
    let none = neither (length (known_faces os.items)) _ _ refl e in
    let none_here : length (known_faces os.items) ≡ 0 = omega (arith, none.0) in
    let left = drop (length (known_faces os.items)) seen in
    ap (λ n. take n seen ++ peeked mems (map sight_seen sights) left) none_here ∙ none_peeked mems sights left none.1

pub none_kept : (mems : List Bool) (sights : List Sight) (seen : List ℕ) →
    list_any (λ sight. knows (sight_seen sight)) sights ≡ false →
    blanks (patterns mems (map sight_seen sights) seen) ≡ length (patterns mems (map sight_seen sights) seen)
none_kept mems [] seen e = refl
none_kept [] (sight ∷ sights) seen e = refl
none_kept (true ∷ mems) (Faces fs ∷ sights) seen e = none_kept mems sights seen e
none_kept (true ∷ mems) (Partly os ∷ sights) seen e =
    none_kept mems sights seen (neither (length (known_faces os.items)) _ _ refl e).1
none_kept (false ∷ mems) (Faces fs ∷ sights) seen e = none_kept mems sights (drop (length fs.items) seen) e
none_kept (false ∷ mems) (Partly os ∷ sights) seen e =
    let none = neither (length (known_faces os.items)) _ _ refl e in
    let left = drop (length (known_faces os.items)) seen in
    let here = other_if os.items seen none.0 (nat_lt 0 (unknown os.items)) in
    let behind = patterns mems (map sight_seen sights) left in
    let rest = none_kept mems sights left none.1 in
    let both = blanks-append (pattern_of false (partly os.items) seen) behind in
    let long = length-append (pattern_of false (partly os.items) seen) behind in
    omega (arith, here, rest, both, long)
