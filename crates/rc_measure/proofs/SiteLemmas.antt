-- The row of one site more.
use Rattle.std.proofs.Common.{◌≡◌, ℕ, ◌+◌, Bool, true, false, if◌then◌else◌, List, [], ◌∷◌, ◌++◌, map, filter, ℤ, refl, sym, ap, ◌∙◌}
use Rattle.rc_base.specs.Numbers.{below}
use Rattle.rc_base.specs.Transcript.{Record}
use Rattle.rc_measure.specs.Tally.{Tally, at_site, tally_where}
use Rattle.rc_measure.specs.Measures.{site_row, is_met}
use Rattle.rc_measure.specs.Rows.{rows_of_site}
use Rattle.rc_measure.proofs.CodeLemmas.{kept_more}

row_if : {X Y : Type 0} (f : X → Y) (x : X) (b : Bool) → map f (if b then x ∷ [] else []) ≡ (if b then f x ∷ [] else [])
row_if f x true = refl
row_if f x false = refl

pub site_more : (records : List Record) (rows : List (List ℤ)) (site : ℕ) (t : Tally) → t ≡ tally_where (at_site site) records →
    rows ≡ map (site_row records) (filter (is_met records) (below site)) →
    rows ++ rows_of_site site t ≡ map (site_row records) (filter (is_met records) (below (site + 1)))
site_more records rows site t is so_far =
    ap (λ (t : Tally). rows ++ rows_of_site site t) is
    ∙ ap (λ last. rows ++ last) (sym (row_if (site_row records) site (is_met records site)))
    ∙ kept_more (site_row records) (is_met records) rows site so_far
