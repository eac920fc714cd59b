-- What a board keeps, after edits and where it goes home.
use Rattle.std.proofs.Common.{◌≡◌, ℕ, ◌<◌, false, true, true≢false, List, [], ◌∷◌, length, IsSome, refl, sym, ap, ◌∙◌, subst}
use Rattle.rc_play_spec.specs.Table.{Table, IsSound}
use Rattle.rc_table.specs.Laid.{Laid, relaid}
use Rattle.rc_undo.specs.Undo.{Edit, ordered, undone, before_of, IsEditOf, LeadsThrough, CanUndo, Kept, away_at, edited, gone_home, GoesBack}
use Rattle.rc_undo.specs.Past.{Past, none_kept, edits_kept, home_kept, noted_in, edits_of, notes_of, home_of, home_table, TookLast, AreMarks, OrderNoted, IsPast, kept_of}
use Rattle.rc_undo.proofs.UndoLemmas.{ComesBack, noted_can, so_many}

-- EDITS

abbrev pub AreNoted : Past → Laid → Kept → Type 0
AreNoted past laid kept = IsPast laid past × (kept_of past laid ≡ kept)

one_noted : (e : Edit) (past : Past) (old : Laid) (t : Table) → undone e t ≡ old.table → IsEditOf old.shape e × LeadsThrough old.shape e t → IsSound old.shape old.table → IsPast old past →
    AreNoted (noted_in e past) (relaid old t) (edited (kept_of past old) t)
one_noted e none_kept old t back is sound kept = (tt, refl)
one_noted e (edits_kept edits) old t back is sound kept = (
  noted_can old.shape edits (e ∷ edits) e old.table t refl back is sound kept,
  ap (λ u. record { laid = relaid old t; before = u ∷ before_of edits u; notes = true; home = home_of (edits_kept edits) }) back,
)
one_noted e (home_kept base) old t back is sound kept = (kept, refl)

-- what a board is after an edit
pub noted_edit : (e : Edit) (past past' : Past) (old new : Laid) (t : Table) → past' ≡ noted_in e past → new ≡ relaid old t → undone e t ≡ old.table →
    IsEditOf old.shape e × LeadsThrough old.shape e t → IsSound old.shape old.table → IsPast old past → AreNoted past' new (edited (kept_of past old) t)
noted_edit e past past' old new t more laid back is sound kept =
    subst (λ (p : Past). AreNoted p new (edited (kept_of past old) t)) (sym more)
    (subst (λ (l : Laid). AreNoted (noted_in e past) l (edited (kept_of past old) t)) (sym laid) (one_noted e past old t back is sound kept))

-- what a board is after another order
pub order_noted : (past past' : Past) (old new : Laid) (t : Table) (loc : ℕ) (list : List ℕ) → OrderNoted old.table.marks loc list past past' → new ≡ relaid old t →
    ((bytes : List ℕ) → AreMarks old.table.marks list bytes → ComesBack old.shape (ordered loc list bytes) t old.table) → loc < length old.shape.places →
    IsSound old.shape old.table → IsPast old past → AreNoted past' new (edited (kept_of past old) t)
order_noted none_kept past' old new t loc list noted laid back is sound kept =
    subst (λ (p : Past). AreNoted p new (edited (kept_of none_kept old) t)) (sym noted)
    (subst (λ (l : Laid). AreNoted none_kept l (edited (kept_of none_kept old) t)) (sym laid) (tt, refl))
order_noted (edits_kept edits) past' old new t loc list noted laid back is sound kept =
    let comes = back noted.0 noted.1 in
    noted_edit (ordered loc list noted.0) (edits_kept edits) past' old new t noted.2 laid comes.0 (is, comes.1) sound kept
order_noted (home_kept base) past' old new t loc list noted laid back is sound kept =
    subst (λ (p : Past). AreNoted p new (edited (kept_of (home_kept base) old) t)) (sym noted)
    (subst (λ (l : Laid). AreNoted (home_kept base) l (edited (kept_of (home_kept base) old) t)) (sym laid) (kept, refl))

-- and where edits aren't noted
unnoted : (past : Past) (old : Laid) (t : Table) → notes_of past ≡ false → IsPast old past → AreNoted past (relaid old t) (edited (kept_of past old) t)
unnoted none_kept old t off kept = (tt, refl)
unnoted (edits_kept edits) old t off kept = absurd (true≢false off)
unnoted (home_kept base) old t off kept = (kept, refl)

pub unnoted_edit : (past : Past) (old new : Laid) (t : Table) → notes_of past ≡ false → new ≡ relaid old t → IsPast old past →
    AreNoted past new (edited (kept_of past old) t)
unnoted_edit past old new t off laid kept =
    subst (λ (l : Laid). AreNoted past l (edited (kept_of past old) t)) (sym laid) (unnoted past old t off kept)

-- THE LAST EDIT

-- what there is to be taken back
pub edits_long : (past : Past) (laid : Laid) → length (edits_of past) ≡ length (kept_of past laid).before
edits_long past laid = sym (so_many (edits_of past) laid.table)

-- where the last edit was taken out, it leads back
pub record LeadsBack (e : Edit) (old : Laid) (past past' : Past) : Type 0 where
  pub edit : IsEditOf old.shape e
  pub through : LeadsThrough old.shape e old.table
  pub sound : IsSound old.shape (undone e old.table)
  pub kept : IsPast (relaid old (undone e old.table)) past'
  pub goes : GoesBack (kept_of past old) (kept_of past' (relaid old (undone e old.table))) (old.table ∷ [])

last_of : (e : Edit) (edits : List Edit) (old : Laid) → CanUndo old.shape (e ∷ edits) old.table → LeadsBack e old (edits_kept (e ∷ edits)) (edits_kept edits)
last_of e edits old can =
    record {
      edit = can.0.0;
      through = can.0.1;
      sound = can.1;
      kept = can.2;
      goes = record { shape = refl; notes = refl; behind = refl; home = refl };
    }

pub took_last : (e : Edit) (old : Laid) (past past' : Past) → TookLast e past past' → IsPast old past → LeadsBack e old past past'
took_last e old past past' took kept =
    subst (λ (p : Past). LeadsBack e old p past') (sym took.1)
    (subst (λ (p : Past). LeadsBack e old (edits_kept (e ∷ took.0)) p) (sym took.2)
    (last_of e took.0 old (subst (IsPast old) took.1 kept)))

-- HOME

home_again : (past : Past) (old : Laid) → IsPast old past → AreNoted past (relaid old (home_table past old.table)) (gone_home (kept_of past old))
home_again none_kept old kept = (tt, refl)
home_again (edits_kept edits) old kept = (kept, refl)
home_again (home_kept base) old kept = (kept, refl)

-- at another table, where there is a home
pub went_to : (past : Past) (old to : Laid) → IsSome (home_of past) → old.shape ≡ to.shape → IsPast old past →
    IsPast to past × (kept_of past to ≡ away_at to (home_of past))
went_to none_kept old to home shape kept = absurd (true≢false (sym home))
went_to (edits_kept edits) old to home shape kept = absurd (true≢false (sym home))
went_to (home_kept base) old to home shape kept = (kept ∙ shape, refl)

pub went_home : (past : Past) (old new : Laid) → new ≡ relaid old (home_table past old.table) → IsPast old past → AreNoted past new (gone_home (kept_of past old))
went_home past old new laid kept =
    subst (λ (l : Laid). AreNoted past l (gone_home (kept_of past old))) (sym laid) (home_again past old kept)
