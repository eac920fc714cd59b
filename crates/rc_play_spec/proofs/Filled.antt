-- Lists that are filled by what is seen of others have their form.
use Rattle.std.proofs.Common.{Option, Some, None, ◌≡◌, ℕ, suc, ◌+◌, ◌<◌, ◌≤◌, ◌==◌, Bool, true, false, if◌then◌else◌, List, [], ◌∷◌, ◌++◌, length, map, take, drop, refl, sym, ap, ap₂, ◌∙◌, true≢false, arith}
use Rattle.std.specs.Prelude.{All, sum_by, count_by}
use Rattle.std.specs.List.{zip, AllByRecursion}
use Rattle.std.proofs.Math.Seq.{take-append_seam, drop-append_seam}
use Rattle.std.proofs.lemmas.Simd.{map-map}
use Rattle.std.proofs.lemmas.List.{length-map, length-append, length-drop, length-take-le, map-append, take-append-drop, take-map, drop-map, nil_from_length}
use Rattle.std.proofs.lemmas.List.Elements.{All-append, All-nil, All-head, All-tail, All-cons, All-take, All-drop, All-map, All-weaker}
use Rattle.std.proofs.lemmas.List.Sums.{sum_by-cons}
use Rattle.rc_sheet_spec.specs.Sheet.{LocKind, vloc, iloc, hloc, mem, Class}
use Rattle.rc_sheet_spec.specs.WellFormed.{is_mem}
use Rattle.rc_play_spec.specs.Shape.{Place, Shape}
use Rattle.rc_play_spec.specs.Sees.{sees_kind, sees_place}
use Rattle.rc_play_spec.specs.Table.{times_in, references_in, is_marked}
use Rattle.rc_play_spec.specs.View.{with_faces, partly, known_face, sight_of, sights_of}
use Rattle.rc_play_spec.specs.Redraw.{known_faces, unknown, mems_of, faces_at, hidden_at, hidden_count, seen_faces, mixed, ids_at, filled, peeked_at, peeked}
use Rattle.rc_play_spec.proofs.Counting.{passing, same, passing-is, passing-append}
use Rattle.rc_play_spec.proofs.Ids.{face_no, face_no-lt, face_no-self}

-- the ids at known places, and those at the others
abbrev pub picks : List (Option ℕ) → List ℕ → List ℕ
picks [] ids = []
picks (o ∷ os) [] = []
picks (Some f ∷ os) (id ∷ ids) = id ∷ picks os ids
picks (None ∷ os) (id ∷ ids) = picks os ids

abbrev pub rests : List (Option ℕ) → List ℕ → List ℕ
rests [] ids = []
rests (o ∷ os) [] = []
rests (Some f ∷ os) (id ∷ ids) = rests os ids
rests (None ∷ os) (id ∷ ids) = id ∷ rests os ids

picks-pass : (q : ℕ → Bool) (os : List (Option ℕ)) (ids : List ℕ) → length ids ≡ length os → passing q ids ≡ passing q (picks os ids) + passing q (rests os ids)
picks-pass q [] [] e = refl
picks-pass q [] (id ∷ ids) e = absurd (omega (arith, e))
picks-pass q (o ∷ os) [] e = absurd (omega (arith, e))
picks-pass q (Some f ∷ os) (id ∷ ids) e = let h = picks-pass q os ids (omega (arith, e)) in omega (arith, h)
picks-pass q (None ∷ os) (id ∷ ids) e = let h = picks-pass q os ids (omega (arith, e)) in omega (arith, h)

picks-all : (P : ℕ → Type 0) (os : List (Option ℕ)) (ids : List ℕ) → All P ids → All P (picks os ids) × All P (rests os ids)
picks-all P [] ids all = (All-nil P, All-nil P)
picks-all P (o ∷ os) [] all = (All-nil P, All-nil P)
picks-all P (Some f ∷ os) (id ∷ ids) all =
    let h = picks-all P os ids (All-tail P id ids all) in (All-cons P id (picks os ids) (All-head P id ids all) h.0, h.1)
picks-all P (None ∷ os) (id ∷ ids) all =
    let h = picks-all P os ids (All-tail P id ids all) in (h.0, All-cons P id (rests os ids) (All-head P id ids all) h.1)

-- what fills known places and the others
pub mixed-length : (os : List (Option ℕ)) (seen hidden : List ℕ) → length (known_faces os) ≤ length seen → unknown os ≤ length hidden →
    length (mixed os seen hidden) ≡ length os
mixed-length [] seen hidden l l' = refl
mixed-length (Some f ∷ os) [] hidden l l' = absurd (omega (arith, l))
mixed-length (Some f ∷ os) (id ∷ seen) hidden l l' = let h = mixed-length os seen hidden (omega (arith, l)) l' in omega (arith, h)
mixed-length (None ∷ os) seen [] l l' = absurd (omega (arith, l'))
mixed-length (None ∷ os) seen (id ∷ hidden) l l' = let h = mixed-length os seen hidden l (omega (arith, l')) in omega (arith, h)

mixed-picks : (os : List (Option ℕ)) (seen hidden : List ℕ) → length (known_faces os) ≤ length seen → unknown os ≤ length hidden →
    (picks os (mixed os seen hidden) ≡ take (length (known_faces os)) seen) × (rests os (mixed os seen hidden) ≡ take (unknown os) hidden)
mixed-picks [] seen hidden l l' = (refl, refl)
mixed-picks (Some f ∷ os) [] hidden l l' = absurd (omega (arith, l))
mixed-picks (Some f ∷ os) (id ∷ seen) hidden l l' =
    let h = mixed-picks os seen hidden (omega (arith, l)) l' in (ap (λ ids. id ∷ ids) h.0, h.1)
mixed-picks (None ∷ os) seen [] l l' = absurd (omega (arith, l'))
mixed-picks (None ∷ os) seen (id ∷ hidden) l l' =
    let h = mixed-picks os seen hidden l (omega (arith, l')) in (h.0, ap (λ ids. id ∷ ids) h.1)

mixed-all : (P : ℕ → Type 0) (os : List (Option ℕ)) (seen hidden : List ℕ) → All P seen → All P hidden → All P (mixed os seen hidden)
mixed-all P [] seen hidden h h' = All-nil P
mixed-all P (Some f ∷ os) [] hidden h h' = All-nil P
mixed-all P (Some f ∷ os) (id ∷ seen) hidden h h' =
    All-cons P id (mixed os seen hidden) (All-head P id seen h) (mixed-all P os seen hidden (All-tail P id seen h) h')
mixed-all P (None ∷ os) seen [] h h' = All-nil P
mixed-all P (None ∷ os) seen (id ∷ hidden) h h' =
    All-cons P id (mixed os seen hidden) (All-head P id hidden h') (mixed-all P os seen hidden h (All-tail P id hidden h'))

pub mem_kind : (shape : Shape) (seat : ℕ) (kind : LocKind) (class : Class) (owner : ℕ) → is_mem kind ≡ true →
    sees_kind shape seat kind class owner ≡ true
mem_kind shape seat vloc class owner e = refl
mem_kind shape seat iloc class owner e = absurd (true≢false (sym e))
mem_kind shape seat hloc class owner e = absurd (true≢false (sym e))
mem_kind shape seat mem class owner e = refl

pub split : (P : ℕ → Type 0) (xs ys : List ℕ) → AllByRecursion P (xs ++ ys) → AllByRecursion P xs × AllByRecursion P ys
split P [] ys all = (tt, all)
split P (x ∷ xs) ys all = let h = split P xs ys all.1 in ((all.0, h.0), h.1)

module _ (shape : Shape) (marks : List (List ℕ)) (seat : ℕ) where
  abbrev pub knows : List ℕ → List (Option ℕ)
  knows ids = map (known_face shape marks seat) ids

  -- The cards of a location that it shows openly, those that are known without being shown, and the others. The first test is whether
  -- the location is for references, the second whether it is seen. What is known is told by the list that was there first.
  abbrev pub open_part : Bool → Bool → List ℕ → List ℕ → List ℕ
  open_part true s old new = []
  open_part false true old new = new
  open_part false false old new = []

  abbrev pub peek_part : Bool → Bool → List ℕ → List ℕ → List ℕ
  peek_part true s old new = []
  peek_part false true old new = []
  peek_part false false old new = picks (knows old) new

  abbrev pub seen_part : Bool → Bool → List ℕ → List ℕ → List ℕ
  seen_part true s old new = []
  seen_part false true old new = new
  seen_part false false old new = picks (knows old) new

  abbrev pub hidden_part : Bool → Bool → List ℕ → List ℕ → List ℕ
  hidden_part true s old new = []
  hidden_part false true old new = []
  hidden_part false false old new = rests (knows old) new

  -- those of all locations
  module _ (part : Bool → Bool → List ℕ → List ℕ → List ℕ) where
    abbrev pub held : List Place → List (List ℕ) → List (List ℕ) → List ℕ
    held ps [] news = []
    held ps (old ∷ olds) [] = []
    held [] (old ∷ olds) (new ∷ news) = []
    held (p ∷ ps) (old ∷ olds) (new ∷ news) = part (is_mem p.kind) (sees_place shape seat (Some p)) old new ++ held ps olds news

  abbrev pub open_held : List Place → List (List ℕ) → List (List ℕ) → List ℕ
  open_held ps olds news = held open_part ps olds news

  abbrev pub peek_held : List Place → List (List ℕ) → List (List ℕ) → List ℕ
  peek_held ps olds news = held peek_part ps olds news

  abbrev pub seen_held : List Place → List (List ℕ) → List (List ℕ) → List ℕ
  seen_held ps olds news = held seen_part ps olds news

  abbrev pub hidden_held : List Place → List (List ℕ) → List (List ℕ) → List ℕ
  hidden_held ps olds news = held hidden_part ps olds news

  -- lists as long as others
  abbrev pub Long : List (List ℕ) → List (List ℕ) → Type 0
  Long [] [] = Unit {0}
  Long [] (new ∷ news) = ⊥
  Long (old ∷ olds) [] = ⊥
  Long (old ∷ olds) (new ∷ news) = (length new ≡ length old) × Long olds news

  pub long-self : (lists : List (List ℕ)) → Long lists lists
  long-self [] = tt
  long-self (ids ∷ lists) = (refl, long-self lists)

  -- what is known of a list
  known-is : (ids : List ℕ) →
      (known_faces (knows ids) ≡ map (face_no shape) (picks (knows ids) ids)) × (unknown (knows ids) ≡ length (rests (knows ids) ids))
  known-is [] = (refl, refl)
  known-is (id ∷ ids) = step (is_marked marks seat id) (known-is ids) where
    step : (b : Bool) → (known_faces (knows ids) ≡ map (face_no shape) (picks (knows ids) ids)) × (unknown (knows ids) ≡ length (rests (knows ids) ids)) →
        (known_faces ((if b then Some (face_no shape id) else None) ∷ knows ids)
        ≡ map (face_no shape) (picks ((if b then Some (face_no shape id) else None) ∷ knows ids) (id ∷ ids)))
        × (unknown ((if b then Some (face_no shape id) else None) ∷ knows ids) ≡ length (rests ((if b then Some (face_no shape id) else None) ∷ knows ids) (id ∷ ids)))
    step true rest = (ap (λ fs. face_no shape id ∷ fs) rest.0, rest.1)
    step false rest = (rest.0, ap suc rest.1)

  -- what is seen of the cards
  faces_at-is : (m s : Bool) (ids : List ℕ) → faces_at m (sight_of shape marks seat s ids) ≡ map (face_no shape) (seen_part m s ids ids)
  faces_at-is true s ids = refl
  faces_at-is false true ids = refl
  faces_at-is false false ids = (known-is ids).0

  hidden_at-is : (m s : Bool) (ids : List ℕ) → hidden_at m (sight_of shape marks seat s ids) ≡ length (hidden_part m s ids ids)
  hidden_at-is true s ids = refl
  hidden_at-is false true ids = refl
  hidden_at-is false false ids = (known-is ids).1

  pub seen_faces-are : (ps : List Place) (lists : List (List ℕ)) →
      seen_faces (mems_of ps) (sights_of shape marks seat ps lists) ≡ map (face_no shape) (seen_held ps lists lists)
  seen_faces-are ps [] = refl
  seen_faces-are [] (ids ∷ lists) = refl
  seen_faces-are (p ∷ ps) (ids ∷ lists) =
      ap₂ ◌++◌ (faces_at-is (is_mem p.kind) (sees_place shape seat (Some p)) ids) (seen_faces-are ps lists)
      ∙ sym (map-append (face_no shape) (seen_part (is_mem p.kind) (sees_place shape seat (Some p)) ids ids) (seen_held ps lists lists))

  pub hidden_count-is : (ps : List Place) (lists : List (List ℕ)) →
      hidden_count (mems_of ps) (sights_of shape marks seat ps lists) ≡ length (hidden_held ps lists lists)
  hidden_count-is ps [] = refl
  hidden_count-is [] (ids ∷ lists) = refl
  hidden_count-is (p ∷ ps) (ids ∷ lists) =
      ap₂ ◌+◌ (hidden_at-is (is_mem p.kind) (sees_place shape seat (Some p)) ids) (hidden_count-is ps lists)
      ∙ sym (length-append (hidden_part (is_mem p.kind) (sees_place shape seat (Some p)) ids ids) (hidden_held ps lists lists))

  -- each card is seen or not
  times-part : (id : ℕ) (m s : Bool) (old new : List ℕ) → length new ≡ length old →
      (if m then 0 else count_by (λ other. other == id) new) ≡ passing (same id) (seen_part m s old new) + passing (same id) (hidden_part m s old new)
  times-part id true s old new e = refl
  times-part id false true old new e = let h = passing-is (same id) new in omega (arith, h)
  times-part id false false old new e =
      let h = passing-is (same id) new in
      let k = picks-pass (same id) (knows old) new (e ∙ sym (length-map old (known_face shape marks seat))) in omega (arith, h, k)

  pub times-are : (id : ℕ) (ps : List Place) (olds news : List (List ℕ)) → Long olds news → length news ≡ length ps →
      sum_by (times_in id) (zip ps news) ≡ passing (same id) (seen_held ps olds news) + passing (same id) (hidden_held ps olds news)
  times-are id [] [] [] long e = refl
  times-are id (p ∷ ps) [] [] long e = refl
  times-are id ps [] (new ∷ news) long e = absurd long
  times-are id ps (old ∷ olds) [] long e = absurd long
  times-are id [] (old ∷ olds) (new ∷ news) long e = absurd (omega (arith, e))
  times-are id (p ∷ ps) (old ∷ olds) (new ∷ news) long e =
      let m = is_mem p.kind in
      let s = sees_place shape seat (Some p) in
      let step = sum_by-cons (times_in id) (p, new) (zip ps news) in
      let here = times-part id m s old new long.0 in
      let rest = times-are id ps olds news long.1 (omega (arith, e)) in
      let seen = passing-append (same id) (seen_part m s old new) (seen_held ps olds news) in
      let hidden = passing-append (same id) (hidden_part m s old new) (hidden_held ps olds news) in
      omega (arith, step, here, rest, seen, hidden)

  -- what is seen is shown openly, or known without that
  both-parts : (q : ℕ → Bool) (m s : Bool) (old new : List ℕ) → passing q (seen_part m s old new) ≡ passing q (open_part m s old new) + passing q (peek_part m s old new)
  both-parts q true s old new = refl
  both-parts q false true old new = omega arith
  both-parts q false false old new = omega arith

  pub both-held : (q : ℕ → Bool) (ps : List Place) (olds news : List (List ℕ)) →
      passing q (seen_held ps olds news) ≡ passing q (open_held ps olds news) + passing q (peek_held ps olds news)
  both-held q ps [] news = refl
  both-held q ps (old ∷ olds) [] = refl
  both-held q [] (old ∷ olds) (new ∷ news) = refl
  both-held q (p ∷ ps) (old ∷ olds) (new ∷ news) =
      let m = is_mem p.kind in
      let s = sees_place shape seat (Some p) in
      let here = both-parts q m s old new in
      let rest = both-held q ps olds news in
      let a = passing-append q (seen_part m s old new) (seen_held ps olds news) in
      let b = passing-append q (open_part m s old new) (open_held ps olds news) in
      let c = passing-append q (peek_part m s old new) (peek_held ps olds news) in
      omega (arith, here, rest, a, b, c)

  -- all of them are within what all lists are within
  module _ (P : ℕ → Type 0) where
    part-all : (m s : Bool) (old new : List ℕ) → All P new → All P (seen_part m s old new) × All P (hidden_part m s old new)
    part-all true s old new h = (All-nil P, All-nil P)
    part-all false true old new h = (h, All-nil P)
    part-all false false old new h = picks-all P (knows old) new h

    pub held-all : (ps : List Place) (olds news : List (List ℕ)) → All (All P) news → All P (seen_held ps olds news) × All P (hidden_held ps olds news)
    held-all ps [] news h = (All-nil P, All-nil P)
    held-all ps (old ∷ olds) [] h = (All-nil P, All-nil P)
    held-all [] (old ∷ olds) (new ∷ news) h = (All-nil P, All-nil P)
    held-all (p ∷ ps) (old ∷ olds) (new ∷ news) h =
        let m = is_mem p.kind in
        let s = sees_place shape seat (Some p) in
        let here = part-all m s old new (All-head (All P) new news h) in
        let rest = held-all ps olds news (All-tail (All P) new news h) in
        (All-append P (seen_part m s old new) (seen_held ps olds news) here.0 rest.0, All-append P (hidden_part m s old new) (hidden_held ps olds news) here.1 rest.1)

  -- there is enough to fill a location
  abbrev Enough : Bool → Bool → List ℕ → List ℕ → List ℕ → Type 0
  Enough m s ids seen hidden =
      (length (faces_at m (sight_of shape marks seat s ids)) ≤ length seen) × (hidden_at m (sight_of shape marks seat s ids) ≤ length hidden)

  -- what fills the known places is what they hold
  seen_filled : (m s : Bool) (ids seen hidden : List ℕ) → Enough m s ids seen hidden →
      seen_part m s ids (ids_at m (sight_of shape marks seat s ids) seen hidden) ≡ take (length (faces_at m (sight_of shape marks seat s ids))) seen
  seen_filled true true ids seen hidden enough = refl
  seen_filled true false ids seen hidden enough = refl
  seen_filled false true ids seen hidden enough = refl
  seen_filled false false ids seen hidden enough = (mixed-picks (knows ids) seen hidden enough.0 enough.1).0

  peek_filled : (m s : Bool) (ids seen hidden : List ℕ) → Enough m s ids seen hidden →
      peek_part m s ids (ids_at m (sight_of shape marks seat s ids) seen hidden) ≡ peeked_at m (sight_of shape marks seat s ids) seen
  peek_filled true true ids seen hidden enough = refl
  peek_filled true false ids seen hidden enough = refl
  peek_filled false true ids seen hidden enough = refl
  peek_filled false false ids seen hidden enough = (mixed-picks (knows ids) seen hidden enough.0 enough.1).0

  hidden_filled : (m s : Bool) (ids seen hidden : List ℕ) → Enough m s ids seen hidden →
      hidden_part m s ids (ids_at m (sight_of shape marks seat s ids) seen hidden) ≡ take (hidden_at m (sight_of shape marks seat s ids)) hidden
  hidden_filled true true ids seen hidden enough = refl
  hidden_filled true false ids seen hidden enough = refl
  hidden_filled false true ids seen hidden enough = refl
  hidden_filled false false ids seen hidden enough = (mixed-picks (knows ids) seen hidden enough.0 enough.1).1

  -- what is left of what fills is what fills the rest
  seen_rest : (seen front back : List ℕ) → map (face_no shape) seen ≡ front ++ back →
      (map (face_no shape) (take (length front) seen) ≡ front) × (map (face_no shape) (drop (length front) seen) ≡ back)
  seen_rest seen front back e = (
    sym (take-map (face_no shape) (length front) seen) ∙ ap (take (length front)) e ∙ take-append_seam front back,
    sym (drop-map (face_no shape) (length front) seen) ∙ ap (drop (length front)) e ∙ drop-append_seam front back,
  )

  hidden_rest : (m s : Bool) (ids hidden rest : List ℕ) → length hidden ≡ length (hidden_part m s ids ids ++ rest) →
      (length (take (hidden_at m (sight_of shape marks seat s ids)) hidden) ≡ length (hidden_part m s ids ids))
      × (length (drop (hidden_at m (sight_of shape marks seat s ids)) hidden) ≡ length rest)
  hidden_rest m s ids hidden rest e =
      let n = hidden_at m (sight_of shape marks seat s ids) in
      let is = hidden_at-is m s ids in
      let both = length-append (hidden_part m s ids ids) rest in
      let front = length-take-le n hidden (omega (arith, is, both, e)) in
      let back = length-drop n hidden in
      (omega (arith, is, front), omega (arith, is, both, e, back))

  enough-for : (m s : Bool) (ids seen hidden back rest : List ℕ) → map (face_no shape) seen ≡ faces_at m (sight_of shape marks seat s ids) ++ back →
      length hidden ≡ length (hidden_part m s ids ids ++ rest) → Enough m s ids seen hidden
  enough-for m s ids seen hidden back rest e e' =
      let a = sym (length-map seen (face_no shape)) ∙ ap length e ∙ length-append (faces_at m (sight_of shape marks seat s ids)) back in
      let is = hidden_at-is m s ids in
      let b = e' ∙ length-append (hidden_part m s ids ids) rest in
      (omega (arith, a), omega (arith, is, b))

  -- references are the smallest ids of their faces; cards are as many, and of the same faces where they are known
  abbrev LikeAt : Bool → Bool → List ℕ → List ℕ → Type 0
  LikeAt true s old new = new ≡ map (face_no shape) old
  LikeAt false true old new = map (face_no shape) new ≡ map (face_no shape) old
  LikeAt false false old new = (length new ≡ length old) × (map (face_no shape) (picks (knows old) new) ≡ known_faces (knows old))

  abbrev pub Like : List Place → List (List ℕ) → List (List ℕ) → Type 0
  Like ps [] [] = Unit {0}
  Like ps [] (new ∷ news) = ⊥
  Like ps (old ∷ olds) [] = ⊥
  Like [] (old ∷ olds) (new ∷ news) = ⊥
  Like (p ∷ ps) (old ∷ olds) (new ∷ news) = LikeAt (is_mem p.kind) (sees_place shape seat (Some p)) old new × Like ps olds news

  like_at : (m s : Bool) → (m ≡ true → s ≡ true) → (ids seen hidden : List ℕ) → Enough m s ids seen hidden →
      map (face_no shape) (take (length (faces_at m (sight_of shape marks seat s ids))) seen) ≡ faces_at m (sight_of shape marks seat s ids) →
      LikeAt m s ids (ids_at m (sight_of shape marks seat s ids) seen hidden)
  like_at true true sure ids seen hidden enough e = refl
  like_at true false sure ids seen hidden enough e = absurd (true≢false (sym (sure refl)))
  like_at false true sure ids seen hidden enough e = e
  like_at false false sure ids seen hidden enough e = (
    mixed-length (knows ids) seen hidden enough.0 enough.1 ∙ length-map ids (known_face shape marks seat),
    ap (map (face_no shape)) (mixed-picks (knows ids) seen hidden enough.0 enough.1).0 ∙ e,
  )

  pub filled-like : (ps : List Place) (lists : List (List ℕ)) (seen hidden : List ℕ) → length lists ≡ length ps →
      map (face_no shape) seen ≡ seen_faces (mems_of ps) (sights_of shape marks seat ps lists) → length hidden ≡ length (hidden_held ps lists lists) →
      Like ps lists (filled (mems_of ps) (sights_of shape marks seat ps lists) seen hidden)
  filled-like ps [] seen hidden len e e' = tt
  filled-like [] (ids ∷ lists) seen hidden len e e' = absurd (omega (arith, len))
  filled-like (p ∷ ps) (ids ∷ lists) seen hidden len e e' =
      let m = is_mem p.kind in
      let s = sees_place shape seat (Some p) in
      let back = seen_faces (mems_of ps) (sights_of shape marks seat ps lists) in
      let a = seen_rest seen (faces_at m (sight_of shape marks seat s ids)) back e in
      let b = hidden_rest m s ids hidden (hidden_held ps lists lists) e' in
      let enough = enough-for m s ids seen hidden back (hidden_held ps lists lists) e e' in (
        like_at m s (mem_kind shape seat p.kind p.class p.owner) ids seen hidden enough a.0,
        filled-like ps lists (drop (length (faces_at m (sight_of shape marks seat s ids))) seen) (drop (hidden_at m (sight_of shape marks seat s ids)) hidden) (omega (arith, len)) a.1 b.1,
      )

  pub filled-held : (ps : List Place) (lists : List (List ℕ)) (seen hidden : List ℕ) → length lists ≡ length ps →
      map (face_no shape) seen ≡ seen_faces (mems_of ps) (sights_of shape marks seat ps lists) → length hidden ≡ length (hidden_held ps lists lists) →
      (seen_held ps lists (filled (mems_of ps) (sights_of shape marks seat ps lists) seen hidden) ≡ seen)
      × (hidden_held ps lists (filled (mems_of ps) (sights_of shape marks seat ps lists) seen hidden) ≡ hidden)
      × (peek_held ps lists (filled (mems_of ps) (sights_of shape marks seat ps lists) seen hidden) ≡ peeked (mems_of ps) (sights_of shape marks seat ps lists) seen)
  filled-held ps [] seen hidden len e e' =
      (sym (nil_from_length seen (sym (length-map seen (face_no shape)) ∙ ap length e)), sym (nil_from_length hidden e'), refl)
  filled-held [] (ids ∷ lists) seen hidden len e e' = absurd (omega (arith, len))
  filled-held (p ∷ ps) (ids ∷ lists) seen hidden len e e' =
      let m = is_mem p.kind in
      let s = sees_place shape seat (Some p) in
      let n = length (faces_at m (sight_of shape marks seat s ids)) in
      let k = hidden_at m (sight_of shape marks seat s ids) in
      let back = seen_faces (mems_of ps) (sights_of shape marks seat ps lists) in
      let a = seen_rest seen (faces_at m (sight_of shape marks seat s ids)) back e in
      let b = hidden_rest m s ids hidden (hidden_held ps lists lists) e' in
      let enough = enough-for m s ids seen hidden back (hidden_held ps lists lists) e e' in
      let rest = filled-held ps lists (drop n seen) (drop k hidden) (omega (arith, len)) a.1 b.1 in (
        ap₂ ◌++◌ (seen_filled m s ids seen hidden enough) rest.0 ∙ take-append-drop n seen,
        ap₂ ◌++◌ (hidden_filled m s ids seen hidden enough) rest.1 ∙ take-append-drop k hidden,
        ap₂ ◌++◌ (peek_filled m s ids seen hidden enough) rest.2,
      )

  -- lists of one form are as long
  long_at : (m s : Bool) (old new : List ℕ) → LikeAt m s old new → length new ≡ length old
  long_at true s old new e = ap length e ∙ length-map old (face_no shape)
  long_at false true old new e = sym (length-map new (face_no shape)) ∙ ap length e ∙ length-map old (face_no shape)
  long_at false false old new e = e.0

  pub like-long : (ps : List Place) (olds news : List (List ℕ)) → Like ps olds news → Long olds news
  like-long ps [] [] like = tt
  like-long ps [] (new ∷ news) like = absurd like
  like-long ps (old ∷ olds) [] like = absurd like
  like-long [] (old ∷ olds) (new ∷ news) like = absurd like
  like-long (p ∷ ps) (old ∷ olds) (new ∷ news) like =
      (long_at (is_mem p.kind) (sees_place shape seat (Some p)) old new like.0, like-long ps olds news like.1)

  -- and are seen alike by other marks, where those cards are marked that are known, and no others
  module _ (marks' : List (List ℕ)) where
    abbrev pub Marked : ℕ → Type 0
    Marked id = is_marked marks' seat id ≡ true

    abbrev pub Unmarked : ℕ → Type 0
    Unmarked id = is_marked marks' seat id ≡ false

    mark_step : (b b' : Bool) (id : ℕ) → b ≡ b' → (if b then Some (face_no shape id) else None) ≡ (if b' then Some (face_no shape id) else None)
    mark_step b b' id e = ap (λ b. if b then Some (face_no shape id) else None) e

    same_known : (os : List (Option ℕ)) (new : List ℕ) → length new ≡ length os → map (face_no shape) (picks os new) ≡ known_faces os →
        AllByRecursion Marked (picks os new) → AllByRecursion Unmarked (rests os new) → map (known_face shape marks' seat) new ≡ os
    same_known [] [] len e all all' = refl
    same_known [] (id ∷ new) len e all all' = absurd (omega (arith, len))
    same_known (o ∷ os) [] len e all all' = absurd (omega (arith, len))
    same_known (Some f ∷ os) (id ∷ new) len e all all' =
        let first : face_no shape id ≡ f = cc in
        let rest : map (face_no shape) (picks os new) ≡ known_faces os = cc in
        ap₂ ◌∷◌ (mark_step (is_marked marks' seat id) true id all.0 ∙ ap Some first) (same_known os new (omega (arith, len)) rest all.1 all')
    same_known (None ∷ os) (id ∷ new) len e all all' =
        ap₂ ◌∷◌ (mark_step (is_marked marks' seat id) false id all'.0) (same_known os new (omega (arith, len)) e all all'.1)

    same_sight : (m s : Bool) → (m ≡ true → s ≡ true) → (old new : List ℕ) → LikeAt m s old new →
        AllByRecursion Marked (peek_part m s old new) → AllByRecursion Unmarked (hidden_part m s old new) →
        sight_of shape marks' seat s new ≡ sight_of shape marks seat s old
    same_sight true true sure old new e all all' =
        ap with_faces (ap (map (face_no shape)) e ∙ map-map (face_no shape) (face_no shape) old ∙ same_twice old) where
          same_twice : (ids : List ℕ) → map (λ id. face_no shape (face_no shape id)) ids ≡ map (face_no shape) ids
          same_twice [] = refl
          same_twice (id ∷ ids) = ap₂ ◌∷◌ (face_no-self shape id) (same_twice ids)
    same_sight true false sure old new e all all' = absurd (true≢false (sym (sure refl)))
    same_sight false true sure old new e all all' = ap with_faces e
    same_sight false false sure old new e all all' =
        ap partly (same_known (knows old) new (e.0 ∙ sym (length-map old (known_face shape marks seat))) e.1 all all')

    pub like-sights : (ps : List Place) (olds news : List (List ℕ)) → Like ps olds news → AllByRecursion Marked (peek_held ps olds news) →
        AllByRecursion Unmarked (hidden_held ps olds news) → sights_of shape marks' seat ps news ≡ sights_of shape marks seat ps olds
    like-sights ps [] [] like all all' = refl
    like-sights ps [] (new ∷ news) like all all' = absurd like
    like-sights ps (old ∷ olds) [] like all all' = absurd like
    like-sights [] (old ∷ olds) (new ∷ news) like all all' = absurd like
    like-sights (p ∷ ps) (old ∷ olds) (new ∷ news) like all all' =
        let m = is_mem p.kind in
        let s = sees_place shape seat (Some p) in
        let a = split Marked (peek_part m s old new) (peek_held ps olds news) all in
        let b = split Unmarked (hidden_part m s old new) (hidden_held ps olds news) all' in
        ap₂ ◌∷◌ (same_sight m s (mem_kind shape seat p.kind p.class p.owner) old new like.0 a.0 b.0) (like-sights ps olds news like.1 a.1 b.1)

  -- and have as many references
  same_references : (m s : Bool) (old new : List ℕ) → LikeAt m s old new → (if m then length new else 0) ≡ (if m then length old else 0)
  same_references true s old new e = ap length e ∙ length-map old (face_no shape)
  same_references false s old new e = refl

  pub like-references : (ps : List Place) (olds news : List (List ℕ)) → Like ps olds news → map references_in (zip ps news) ≡ map references_in (zip ps olds)
  like-references ps [] [] like = refl
  like-references ps [] (new ∷ news) like = absurd like
  like-references ps (old ∷ olds) [] like = absurd like
  like-references [] (old ∷ olds) (new ∷ news) like = absurd like
  like-references (p ∷ ps) (old ∷ olds) (new ∷ news) like =
      ap₂ ◌∷◌ (same_references (is_mem p.kind) (sees_place shape seat (Some p)) old new like.0) (like-references ps olds news like.1)

  pub like-length : (ps : List Place) (olds news : List (List ℕ)) → Like ps olds news → length news ≡ length olds
  like-length ps [] [] like = refl
  like-length ps [] (new ∷ news) like = absurd like
  like-length ps (old ∷ olds) [] like = absurd like
  like-length [] (old ∷ olds) (new ∷ news) like = absurd like
  like-length (p ∷ ps) (old ∷ olds) (new ∷ news) like = let h = like-length ps olds news like.1 in omega (arith, h)

  -- what fills is within the ids
  at-within : (m s : Bool) (ids seen hidden : List ℕ) → All (λ id. id < length shape.faces) ids → All (λ id. id < length shape.faces) seen →
      All (λ id. id < length shape.faces) hidden → All (λ id. id < length shape.faces) (ids_at m (sight_of shape marks seat s ids) seen hidden)
  at-within true true ids seen hidden h h' h'' =
      All-map (λ id. id < length shape.faces) (face_no shape) ids (All-weaker (λ id. id < length shape.faces) (λ id. face_no shape id < length shape.faces) (face_no-lt shape) ids h)
  at-within true false ids seen hidden h h' h'' = All-nil (λ id. id < length shape.faces)
  at-within false true ids seen hidden h h' h'' = All-take (λ id. id < length shape.faces) (length (map (face_no shape) ids)) seen h'
  at-within false false ids seen hidden h h' h'' = mixed-all (λ id. id < length shape.faces) (knows ids) seen hidden h' h''

  pub filled-within : (ps : List Place) (lists : List (List ℕ)) (seen hidden : List ℕ) → All (All (λ id. id < length shape.faces)) lists →
      All (λ id. id < length shape.faces) seen → All (λ id. id < length shape.faces) hidden →
      All (All (λ id. id < length shape.faces)) (filled (mems_of ps) (sights_of shape marks seat ps lists) seen hidden)
  filled-within ps [] seen hidden h h' h'' = All-nil (All (λ id. id < length shape.faces))
  filled-within [] (ids ∷ lists) seen hidden h h' h'' =
      All-cons (All (λ id. id < length shape.faces)) [] (filled [] (sights_of shape marks seat [] lists) seen hidden) (All-nil (λ id. id < length shape.faces))
      (filled-within [] lists seen hidden (All-tail (All (λ id. id < length shape.faces)) ids lists h) h' h'')
  filled-within (p ∷ ps) (ids ∷ lists) seen hidden h h' h'' =
      let m = is_mem p.kind in
      let s = sees_place shape seat (Some p) in
      let n = length (faces_at m (sight_of shape marks seat s ids)) in
      let k = hidden_at m (sight_of shape marks seat s ids) in
      All-cons (All (λ id. id < length shape.faces)) (ids_at m (sight_of shape marks seat s ids) seen hidden) (filled (mems_of ps) (sights_of shape marks seat ps lists) (drop n seen) (drop k hidden))
      (at-within m s ids seen hidden (All-head (All (λ id. id < length shape.faces)) ids lists h) h' h'')
      (filled-within ps lists (drop n seen) (drop k hidden) (All-tail (All (λ id. id < length shape.faces)) ids lists h)
      (All-drop (λ id. id < length shape.faces) n seen h') (All-drop (λ id. id < length shape.faces) k hidden h''))
