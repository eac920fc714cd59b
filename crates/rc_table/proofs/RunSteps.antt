-- One step of what goes over many cards.
use Rattle.std.proofs.Common.{◌≡◌, ℕ, ◌+◌, ◌<◌, Bool, true, cond, List, [], ◌∷◌, ◌++◌, length, get_or, set, take, drop, reverse, sym, ap, ◌∙◌, subst}
use Rattle.std.specs.Prelude.{filter, All}
use Rattle.std.proofs.lemmas.List.{take_more, drop_more, drop-drop, take-append-drop, reverse-append}
use Rattle.std.proofs.lemmas.List.Elements.{filter-append, All-push}
use Rattle.std.proofs.lemmas.List.Sums.{fold-append}
use Rattle.rc_sheet_spec.specs.Sheet.{End}
use Rattle.rc_play_spec.specs.Shape.{Shape}
use Rattle.rc_play_spec.specs.Table.{Table, loc_of}
use Rattle.rc_play_spec.specs.Effects.{put}
use Rattle.rc_table.specs.Runs.{put_each, is_free, flagged, AreFresh}
use Rattle.rc_table.specs.Laid.{Laid, relaid}
use Rattle.rc_table.specs.Whereabouts.{whereabouts}
use Rattle.rc_table.proofs.WhereaboutLemmas.{noted_of}
use Rattle.rc_table.proofs.RunLemmas.{flagged-push, fresh-push}

pub filter_more : (p : ℕ → Bool) (list : List ℕ) (at : ℕ) → at < length list →
    filter p (take (at + 1) list) ≡ filter p (take at list) ++ cond (p (get_or list at 0)) (get_or list at 0 ∷ []) []
filter_more p list at less = ap (filter p) (take_more list at 0 less) ∙ filter-append p (take at list) (get_or list at 0 ∷ [])

pub reverse_more : (ids : List ℕ) (k : ℕ) → k < length ids → reverse (drop k ids) ≡ reverse (drop (k + 1) ids) ++ get_or ids k 0 ∷ []
reverse_more ids k less = ap reverse (drop_more ids k 0 less) ∙ reverse-append (get_or ids k 0 ∷ []) (drop (k + 1) ids)

-- a card more of a run
pub run_more : (stand : List (ℕ × ℕ)) (ids : List ℕ) (from : ℕ) (flags now : List Bool) (at : ℕ) → at < length ids →
    now ≡ flagged (take at ids) flags → AreFresh flags (take at ids) → All (λ id. (get_or stand id (0, 0)).0 ≡ from) (take at ids) →
    is_free now (get_or ids at 0) ≡ true → (get_or stand (get_or ids at 0) (0, 0)).0 ≡ from →
    (set now (get_or ids at 0) true ≡ flagged (take (at + 1) ids) flags) × AreFresh flags (take (at + 1) ids)
    × All (λ id. (get_or stand id (0, 0)).0 ≡ from) (take (at + 1) ids)
run_more stand ids from flags now at less is fresh one free here =
    let id = get_or ids at 0 in
    let more = take_more ids at 0 less in (
      ap (λ flags. set flags id true) is ∙ sym (ap (λ xs. flagged xs flags) more ∙ flagged-push (take at ids) id flags),
      subst (AreFresh flags) (sym more) (fresh-push flags (take at ids) id fresh (sym (ap (λ flags. is_free flags id) is) ∙ free)),
      subst (All (λ id. (get_or stand id (0, 0)).0 ≡ from)) (sym more) (All-push (λ id. (get_or stand id (0, 0)).0 ≡ from) (take at ids) id one here),
    )

-- those of a run stand in one location
pub all_at : (shape : Shape) (table : Table) (stand : List (ℕ × ℕ)) (from : ℕ) (ids : List ℕ) → stand ≡ whereabouts shape table →
    All (λ id. id < length shape.faces) ids → All (λ id. (get_or stand id (0, 0)).0 ≡ from) ids → All (λ id. loc_of shape table id ≡ from) ids
all_at shape table stand from ids is cards one i d less =
    let id = get_or ids i d in
    sym (ap (λ (at : ℕ × ℕ). at.0) (ap (λ stand. get_or stand id (0, 0)) is ∙ noted_of shape table id (cards i d less))) ∙ one i d less

module _ (shape : Shape) (end : End) (loc : ℕ) (ids : List ℕ) where
  -- one more is put there
  pub put_more : (k : ℕ) (table : Table) → k < length ids →
      put_each shape end loc (drop k ids) table ≡ put_each shape end loc (drop (k + 1) ids) (put shape end (get_or ids k 0) loc table)
  put_more k table less = ap (λ ids. put_each shape end loc ids table) (drop_more ids k 0 less)

  -- and some more
  pub put_many : (k count : ℕ) (table : Table) →
      put_each shape end loc (drop k ids) table ≡ put_each shape end loc (drop (k + count) ids) (put_each shape end loc (take count (drop k ids)) table)
  put_many k count table =
      ap (λ ids. put_each shape end loc ids table) (sym (take-append-drop count (drop k ids)))
      ∙ fold-append (λ table id. put shape end id loc table) table (take count (drop k ids)) (drop count (drop k ids))
      ∙ ap (λ xs. put_each shape end loc xs (put_each shape end loc (take count (drop k ids)) table)) (drop-drop count k ids)

-- the same where the shape is known to be the same
pub one_more_put : (old now next : Laid) (end : End) (loc : ℕ) (ids : List ℕ) (k : ℕ) → k < length ids → now.shape ≡ old.shape →
    put_each old.shape end loc (drop k ids) now.table ≡ put_each old.shape end loc ids old.table →
    next ≡ relaid now (put now.shape end (get_or ids k 0) loc now.table) →
    record {
      shape : next.shape ≡ old.shape;
      leads : put_each old.shape end loc (drop (k + 1) ids) next.table ≡ put_each old.shape end loc ids old.table;
    }
one_more_put old now next end loc ids k less same leads is =
    record {
      shape = ap (λ (laid : Laid). laid.shape) is ∙ same;
      leads =
          ap (λ (laid : Laid). put_each old.shape end loc (drop (k + 1) ids) laid.table) is
          ∙ ap (λ shape. put_each old.shape end loc (drop (k + 1) ids) (put shape end (get_or ids k 0) loc now.table)) same
          ∙ sym (put_more old.shape end loc ids k now.table less) ∙ leads;
    }

pub more_put : (old now next : Laid) (end : End) (loc : ℕ) (ids : List ℕ) (k count : ℕ) → now.shape ≡ old.shape →
    next ≡ relaid now (put_each now.shape end loc (take count (drop k ids)) now.table) →
    put_each old.shape end loc (drop k ids) now.table ≡ put_each old.shape end loc ids old.table →
    put_each old.shape end loc (drop (k + count) ids) next.table ≡ put_each old.shape end loc ids old.table
more_put old now next end loc ids k count same is leads =
    ap (λ (laid : Laid). put_each old.shape end loc (drop (k + count) ids) laid.table) is
    ∙ ap (λ shape. put_each old.shape end loc (drop (k + count) ids) (put_each shape end loc (take count (drop k ids)) now.table)) same
    ∙ sym (put_many old.shape end loc ids k count now.table) ∙ leads
