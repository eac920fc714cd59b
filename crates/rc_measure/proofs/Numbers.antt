-- The lists of measures have the numbers of their lines.
use Rattle.std.proofs.Common.{◌≡◌, ℕ, List, [], ◌∷◌, length, map, ℤ, refl}
use Rattle.std.specs.List.{AllByRecursion}
use Rattle.rc_base.specs.Numbers.{below}
use Rattle.rc_base.specs.Transcript.{Record}
use Rattle.rc_play_spec.specs.Plan.{Plan}
use Rattle.rc_measure.specs.Measures.{measures_of, site_row, sites_met, seat_row, strategy_row}
use Rattle.rc_measure.specs.Text.{HasNumbers}

pub each_has : (row : ℕ → List ℤ) (n : ℕ) → ((k : ℕ) → length (row k) ≡ n) → (ks : List ℕ) → AllByRecursion (λ row. length row ≡ n) (map row ks)
each_has row n has [] = tt
each_has row n has (k ∷ ks) = (has k, each_has row n has ks)

pub have_numbers : (plan : Plan) (records : List Record) → HasNumbers (measures_of plan records)
have_numbers plan records =
    record {
      matches = refl;
      choices = refl;
      forced = refl;
      menu = refl;
      spread = refl;
      leads = refl;
      turns = refl;
      sites = each_has (site_row records) 4 (λ k. refl) (sites_met records);
      seats = each_has (seat_row records) 5 (λ k. refl) (below (length plan.strategies));
      strategies = each_has (strategy_row plan records) 4 (λ k. refl) (below (length plan.strategies));
    }
