-- What a view of a sound table is redrawn to is sound, and its view is that view.
use Rattle.std.proofs.Common.{Some, ◌≡◌, ℕ, suc, ◌+◌, ◌<◌, ◌≤◌, ◌==◌, Bool, true, false, List, [], ◌∷◌, ◌++◌, length, map, refl, sym, ap, ◌∙◌, subst, true≢false, arith}
use Rattle.std.specs.Prelude.{All, sum_by, IsPermutation, cond}
use Rattle.std.specs.List.{zip, sum, list_any, AllByRecursion}
use Rattle.std.proofs.lemmas.List.{length-map}
use Rattle.std.proofs.lemmas.List.Elements.{All-append, All-map, All-nil, All-cons, All-head, All-tail, recursion_from_All, All-from_recursion}
use Rattle.std.proofs.lemmas.List.Sorted.{All-permutation, length_permutation, sum_by-IsPermutation}
use Rattle.std.proofs.lemmas.List.Sums.{sum-map}
use Rattle.rc_base.specs.Numbers.{below}
use Rattle.rc_sheet_spec.specs.Sheet.{Sheet}
use Rattle.rc_sheet_spec.specs.Sight.{IsInSight}
use Rattle.rc_play_spec.specs.Control.{Control}
use Rattle.rc_play_spec.specs.Owners.{mover}
use Rattle.rc_sheet_spec.specs.WellFormed.{is_mem}
use Rattle.rc_play_spec.specs.Shape.{Place, Shape, places}
use Rattle.rc_play_spec.specs.Sees.{sees_place}
use Rattle.rc_play_spec.specs.Table.{Table, times_in, references_in, HidesMarked, is_marked, IsSound}
use Rattle.rc_play_spec.specs.Scene.{scene_of}
use Rattle.rc_play_spec.specs.View.{View, sights_of, view_of, view_scene}
use Rattle.rc_play_spec.specs.Menu.{menu_of}
use Rattle.rc_play_spec.specs.Redraw.{mems_of, hidden_count, seen_ids, unused, seen_faces, filled, seen_of, peeked, marks_for, redrawn, redraw}
use Rattle.rc_play_spec.specs.Draws.{permuted}
use Rattle.rc_play_spec.specs.RedrawLaws.{IsViewOfSound}
use Rattle.rc_play_spec.proofs.DrawLemmas.{permuted-is}
use Rattle.rc_play_spec.specs.Smallest.{TakeSmallest, AreEnough}
use Rattle.rc_play_spec.proofs.SmallestLemmas.{is-used, not-used, seen_ids-smallest, fits-enough}
use Rattle.rc_play_spec.proofs.Seen.{menu_of_view}
use Rattle.rc_play_spec.proofs.Counting.{one_if, passing, same, passing-is, passing-append, passing-map, passing-all, some_passes, each_once}
use Rattle.rc_play_spec.proofs.Ids.{face_no, Fits, seen_ids-faces, seen_ids-within, seen_or_other, unused-within, ids_of-length}
use Rattle.rc_play_spec.proofs.Filled.{split, open_part, open_held, peek_held, seen_held, hidden_held, Long, long-self, seen_faces-are, hidden_count-is, times-are, both-held, held-all, Like, like-long, filled-like, filled-held, like-sights, like-references, like-length, filled-within}
use Rattle.rc_play_spec.proofs.ShownLemmas.{is-in}
use Rattle.rc_play_spec.proofs.MarksSeen.{each-of, marks-long, marked-is, seats-are, hides, some-peeked, marked-player}

pub all_of_map : {X Y : Type 0} (P : Y → Type 0) (f : X → Y) (xs : List X) → All P (map f xs) → All (λ x. P (f x)) xs
all_of_map P f [] h = All-nil (λ x. P (f x))
all_of_map P f (x ∷ xs) h =
    All-cons (λ x. P (f x)) x xs (All-head P (f x) (map f xs) h) (all_of_map P f xs (All-tail P (f x) (map f xs) h))

-- of a list no more pass than there are
few-pass : (q : ℕ → Bool) (xs : List ℕ) → passing q xs ≤ length xs
few-pass q [] = omega arith
few-pass q (x ∷ xs) = at (q x) (few-pass q xs) where
  at : (b : Bool) → passing q xs ≤ length xs → one_if b + passing q xs ≤ suc (length xs)
  at true le = omega (arith, le)
  at false le = omega (arith, le)

module _ (shape : Shape) (seat : ℕ) (table : Table) (control : Control) (sound : IsSound shape table) where
  abbrev view : View
  view = view_of shape seat table control

  abbrev fs : List ℕ
  fs = seen_faces (mems_of shape.places) (sights_of shape table.marks seat shape.places table.lists)

  abbrev held : List ℕ
  held = seen_held shape table.marks seat shape.places table.lists table.lists

  abbrev others : List ℕ
  others = hidden_held shape table.marks seat shape.places table.lists table.lists

  fs-are : fs ≡ map (face_no shape) held
  fs-are = seen_faces-are shape table.marks seat shape.places table.lists

  -- each id stands once among the cards
  cards-once : (id : ℕ) → id < length shape.faces → passing (same id) (held ++ others) ≡ 1
  cards-once id less =
      passing-append (same id) held others ∙ sym (times-are shape table.marks seat id shape.places table.lists table.lists (long-self shape table.marks seat table.lists) sound.locations) ∙ sound.once id less

  cards-within : All (λ id. id < length shape.faces) (held ++ others)
  cards-within =
      let h = held-all shape table.marks seat (λ id. id < length shape.faces) shape.places table.lists table.lists sound.ids in
      All-append (λ id. id < length shape.faces) held others h.0 h.1

  cards-pass : (q : ℕ → Bool) → passing q held + passing q others ≡ passing q (below (length shape.faces))
  cards-pass q =
      sym (passing-append q held others)
      ∙ each_once q (held ++ others) (length shape.faces) (recursion_from_All (λ id. id < length shape.faces) (held ++ others) cards-within) cards-once

  pub fits : Fits shape [] fs
  fits f =
      let a = ap (passing (same f)) fs-are ∙ passing-map (same f) (face_no shape) held in
      let b = cards-pass (λ id. face_no shape id == f) in
      let c = ids_of-length shape f in omega (arith, a, b, c)

  abbrev taken : List ℕ
  taken = seen_ids shape [] fs

  taken-faces : map (face_no shape) taken ≡ fs
  taken-faces = seen_ids-faces shape [] fs fits

  taken-length : length taken ≡ length held
  taken-length = sym (length-map taken (face_no shape)) ∙ ap length (taken-faces ∙ fs-are) ∙ length-map held (face_no shape)

  -- the others are as many as the unseen places
  pub unused-length : length (unused shape taken) ≡ length others
  unused-length =
      let yes' = λ (id : ℕ). true in
      let new = sym (passing-append yes' taken (unused shape taken))
      ∙ each_once yes' (taken ++ unused shape taken) (length shape.faces)
      (recursion_from_All (λ id. id < length shape.faces) (taken ++ unused shape taken)
      (All-append (λ id. id < length shape.faces) taken (unused shape taken) (seen_ids-within shape [] fs fits) (unused-within shape taken)))
      (λ id less. passing-append (same id) taken (unused shape taken) ∙ seen_or_other shape fs fits id less) in
      let old = cards-pass yes' in
      let a = passing-all taken in
      let b = passing-all (unused shape taken) in
      let c = passing-all held in
      let d = passing-all others in
      let e = taken-length in omega (arith, new, old, a, b, c, d, e)

  module _ (hidden : List ℕ) (order : IsPermutation (unused shape taken) hidden) where
    abbrev lists' : List (List ℕ)
    lists' = filled (mems_of shape.places) (sights_of shape table.marks seat shape.places table.lists) taken hidden

    hidden-length : length hidden ≡ length others
    hidden-length = length_permutation (unused shape taken) hidden order ∙ unused-length

    like : Like shape table.marks seat shape.places table.lists lists'
    like = filled-like shape table.marks seat shape.places table.lists taken hidden sound.locations taken-faces hidden-length

    once' : (id : ℕ) → id < length shape.faces → sum_by (times_in id) (zip shape.places lists') ≡ 1
    once' id less =
        let parts = filled-held shape table.marks seat shape.places table.lists taken hidden sound.locations taken-faces hidden-length in
        let are = times-are shape table.marks seat id shape.places table.lists lists' (like-long shape table.marks seat shape.places table.lists lists' like)
        (like-length shape table.marks seat shape.places table.lists lists' like ∙ sound.locations) in
        let a = ap (passing (same id)) parts.0 in
        let b = ap (passing (same id)) parts.1 in
        let c = passing-is (same id) hidden ∙ sum_by-IsPermutation (λ x. cond (same id x) 1 0) (unused shape taken) hidden order ∙ sym (passing-is (same id) (unused shape taken)) in
        let one = seen_or_other shape fs fits id less in
        omega (arith, are, a, b, c, one)

    -- the marks
    abbrev known : List ℕ
    known = peeked (mems_of shape.places) (sights_of shape table.marks seat shape.places table.lists) taken

    abbrev marks' : List (List ℕ)
    marks' = marks_for (length shape.faces) seat known

    abbrev peeks : List ℕ
    peeks = peek_held shape table.marks seat shape.places table.lists lists'

    abbrev opens : List ℕ
    opens = open_held shape table.marks seat shape.places table.lists lists'

    parts' : (seen_held shape table.marks seat shape.places table.lists lists' ≡ taken)
        × (hidden_held shape table.marks seat shape.places table.lists lists' ≡ hidden) × (peeks ≡ known)
    parts' = filled-held shape table.marks seat shape.places table.lists taken hidden sound.locations taken-faces hidden-length

    within' : All (All (λ id. id < length shape.faces)) lists'
    within' =
        filled-within shape table.marks seat shape.places table.lists taken hidden sound.ids (seen_ids-within shape [] fs fits)
        (All-permutation (λ id. id < length shape.faces) (unused shape taken) hidden order (unused-within shape taken))

    -- each card that is known is openly there or not
    split-taken : (id : ℕ) → passing (same id) taken ≡ passing (same id) opens + passing (same id) known
    split-taken id =
        sym (ap (passing (same id)) parts'.0) ∙ both-held shape table.marks seat (same id) shape.places table.lists lists'
        ∙ ap (λ ids. passing (same id) opens + passing (same id) ids) parts'.2

    in-hidden : (id : ℕ) → passing (same id) hidden ≡ passing (same id) (unused shape taken)
    in-hidden id = passing-is (same id) hidden ∙ sum_by-IsPermutation (λ x. cond (same id x) 1 0) (unused shape taken) hidden order ∙ sym (passing-is (same id) (unused shape taken))

    within-some : (xs : List ℕ) → All (λ id. id < length shape.faces) xs → (id : ℕ) → 0 < passing (same id) xs → id < length shape.faces
    within-some xs all id some = is-in id (λ x. x < length shape.faces) xs all (is-used id xs some)

    held-within : All (λ id. id < length shape.faces) taken × All (λ id. id < length shape.faces) hidden
    held-within = (seen_ids-within shape [] fs fits, All-permutation (λ id. id < length shape.faces) (unused shape taken) hidden order (unused-within shape taken))

    peeks-marked : AllByRecursion (λ id. is_marked marks' seat id ≡ true) peeks
    peeks-marked =
        subst (AllByRecursion (λ id. is_marked marks' seat id ≡ true)) (sym parts'.2)
        (each-of (λ id. is_marked marks' seat id ≡ true) known (λ id some.
        let all = split-taken id in
        marked-is (length shape.faces) seat known id (within-some taken held-within.0 id (omega (arith, all, some))) ∙ is-used id known some))

    opens-unknown : AllByRecursion (λ id. list_any (λ other. other == id) known ≡ false) opens
    opens-unknown =
        each-of (λ id. list_any (λ other. other == id) known ≡ false) opens (λ id some.
        let all = split-taken id in
        let less = within-some taken held-within.0 id (omega (arith, all, some)) in
        let one = seen_or_other shape fs fits id less in
        not-used id known (omega (arith, all, some, one)))

    hidden-unmarked : AllByRecursion (λ id. is_marked marks' seat id ≡ false) (hidden_held shape table.marks seat shape.places table.lists lists')
    hidden-unmarked =
        subst (AllByRecursion (λ id. is_marked marks' seat id ≡ false)) (sym parts'.1)
        (each-of (λ id. is_marked marks' seat id ≡ false) hidden (λ id some.
        let all = split-taken id in
        let less = within-some hidden held-within.1 id some in
        let one = seen_or_other shape fs fits id less in
        let there = in-hidden id in
        marked-is (length shape.faces) seat known id less ∙ not-used id known (omega (arith, all, some, one, there))))

    seat-plays : (id : ℕ) → list_any (λ other. other == id) known ≡ true → seat < shape.players
    seat-plays id is =
        let some = some_passes (same id) known is in
        let long = few-pass (same id) known in
        marked-player shape table.marks seat shape.players sound.seats (some-peeked shape table.marks seat shape.places table.lists taken (omega (arith, some, long)))

    all-hide : (ps : List Place) (olds news : List (List ℕ)) → All (All (λ id. id < length shape.faces)) news →
        AllByRecursion (λ id. list_any (λ other. other == id) known ≡ false) (open_held shape table.marks seat ps olds news) → Long shape table.marks seat olds news →
        AllByRecursion (HidesMarked shape marks') (zip ps news)
    all-hide [] olds news all none long = tt
    all-hide (p ∷ ps) olds [] all none long = tt
    all-hide (p ∷ ps) [] (new ∷ news) all none long = absurd long
    all-hide (p ∷ ps) (old ∷ olds) (new ∷ news) all none long =
        let m = is_mem p.kind in
        let s = sees_place shape seat (Some p) in
        let Q = λ (id : ℕ). list_any (λ other. other == id) known ≡ false in
        let h = split Q (open_part shape table.marks seat m s old new) (open_held shape table.marks seat ps olds news) none in (
          hides (length shape.faces) seat known shape p new (recursion_from_All (λ id. id < length shape.faces) new (All-head (All (λ id. id < length shape.faces)) new news all)) s refl
              (opened m s old new h.0),
          all-hide ps olds news (All-tail (All (λ id. id < length shape.faces)) new news all) h.1 long.1,
        ) where
          opened : (m s : Bool) (old new : List ℕ) → AllByRecursion (λ id. list_any (λ other. other == id) known ≡ false) (open_part shape table.marks seat m s old new) →
              m ≡ false → s ≡ true → AllByRecursion (λ id. list_any (λ other. other == id) known ≡ false) new
          opened true s old new h free is = absurd (true≢false free)
          opened false true old new h free is = h
          opened false false old new h free is = absurd (true≢false (sym is))

    references' : map references_in (zip shape.places lists') ≡ map references_in (zip shape.places table.lists)
    references' = like-references shape table.marks seat shape.places table.lists lists' like

    pub redrawn-sound : IsSound shape (redrawn shape view hidden)
    redrawn-sound =
        record {
          locations = like-length shape table.marks seat shape.places table.lists lists' like ∙ sound.locations;
          amounts = sound.amounts;
          ids = within';
          once = once';
          mems = all_of_map (λ n. n ≤ 512) references_in (zip shape.places lists')
              (subst (All (λ n. n ≤ 512)) (sym references') (All-map (λ n. n ≤ 512) references_in (zip shape.places table.lists) sound.mems));
          together =
              let e = sym (sum-map references_in (zip shape.places lists')) ∙ ap sum references' ∙ sum-map references_in (zip shape.places table.lists) in
              let h = sound.together in omega (arith, e, h);
          clamped = sound.clamped;
          marked = marks-long (length shape.faces) seat known;
          seats = seats-are (length shape.faces) seat known shape.players seat-plays;
          hidden = All-from_recursion (HidesMarked shape marks') (zip shape.places lists')
              (all-hide shape.places table.lists lists' within' opens-unknown (like-long shape table.marks seat shape.places table.lists lists' like));
        }

    pub redrawn-view : view_of shape seat (redrawn shape view hidden) control ≡ view
    redrawn-view =
        ap (λ sights. record { seat = seat; control = control; numbers = table.numbers; sights = sights })
        (like-sights shape table.marks seat marks' shape.places table.lists lists' like peeks-marked hidden-unmarked)

-- of any view of a sound table
pub redrawn-of : (shape : Shape) (view : View) (key : List ℕ) → IsViewOfSound shape view →
    IsSound shape (redraw shape view key) × (view_of shape view.seat (redraw shape view key) view.control ≡ view)
redrawn-of shape view key of =
    let seen = view_of shape view.seat of.0 view.control in
    let others = unused shape (seen_of shape seen) in
    subst (λ v. IsSound shape (redraw shape v key) × (view_of shape v.seat (redraw shape v key) v.control ≡ v)) (sym of.2) (
      redrawn-sound shape view.seat of.0 view.control of.1 (permuted key others) (permuted-is key others),
      redrawn-view shape view.seat of.0 view.control of.1 (permuted key others) (permuted-is key others),
    )

pub redrawn-menu : (sheet : Sheet) (shape : Shape) (view : View) (key : List ℕ) (site : ℕ) → shape.places ≡ places sheet → IsInSight sheet →
    IsViewOfSound shape view → view.seat ≡ mover sheet view.control.frames →
    menu_of (scene_of sheet shape (redraw shape view key) view.control.frames) site ≡ menu_of (view_scene sheet shape view) site
redrawn-menu sheet shape view key site fits rule of moves =
    let table = redraw shape view key in
    menu_of_view sheet shape table view.control fits site rule
    ∙ ap (λ seat. menu_of (view_scene sheet shape (view_of shape seat table view.control)) site) (sym moves)
    ∙ ap (λ v. menu_of (view_scene sheet shape v) site) (redrawn-of shape view key of).1

pub redrawn-smallest : (shape : Shape) (view : View) → IsViewOfSound shape view →
    TakeSmallest shape (seen_faces (mems_of shape.places) view.sights) (seen_of shape view)
redrawn-smallest shape view of =
    let seen = view_of shape view.seat of.0 view.control in
    subst (λ v. TakeSmallest shape (seen_faces (mems_of shape.places) v.sights) (seen_of shape v)) (sym of.2)
    (seen_ids-smallest shape (seen_faces (mems_of shape.places) seen.sights) (fits shape view.seat of.0 view.control of.1))

pub few-seen : (shape : Shape) (view : View) → IsViewOfSound shape view → AreEnough shape (seen_faces (mems_of shape.places) view.sights)
few-seen shape view of =
    let seen = view_of shape view.seat of.0 view.control in
    subst (λ v. AreEnough shape (seen_faces (mems_of shape.places) v.sights)) (sym of.2)
    (fits-enough shape (seen_faces (mems_of shape.places) seen.sights) (fits shape view.seat of.0 view.control of.1))

pub rest-hidden : (shape : Shape) (view : View) → IsViewOfSound shape view →
    hidden_count (mems_of shape.places) view.sights ≡ length (unused shape (seen_of shape view))
rest-hidden shape view of =
    let seen = view_of shape view.seat of.0 view.control in
    subst (λ v. hidden_count (mems_of shape.places) v.sights ≡ length (unused shape (seen_of shape v))) (sym of.2)
    (hidden_count-is shape of.0.marks view.seat shape.places of.0.lists ∙ sym (unused-length shape view.seat of.0 view.control of.1))
