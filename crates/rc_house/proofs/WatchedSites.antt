-- Views that may stand in a log stand at a choice site.
use Rattle.std.proofs.Common.{◌≡◌, ℕ, List, [], ◌∷◌, map, take, Option, Some, None, refl, sym, subst}
use Rattle.std.specs.Prelude.{All, IsSome}
use Rattle.std.specs.List.{AllByRecursion}
use Rattle.std.proofs.lemmas.List.Elements.{All-from_recursion}
use Rattle.rc_deck.proofs.EachLemmas.{take_each}
use Rattle.rc_play_spec.specs.Shape.{Shape}
use Rattle.rc_play_spec.specs.View.{View as PureView}
use Rattle.rc_view.specs.Seen.{view_seen}
use Rattle.rc_view.specs.declared.view.View.{View}
use Rattle.rc_log_spec.specs.Log.{IsLogSite, Counts}

site_there : (o : Option ℕ) → IsLogSite o → IsSome o
site_there None is = absurd is
site_there (Some site) is = refl

stand : (shape : Shape) (seat : ℕ) (views : List View) → AllByRecursion (Counts shape seat) (map view_seen views) → AllByRecursion (λ (v : View). IsSome v.control.site) views
stand shape seat [] all = tt
stand shape seat (v ∷ views) all = (site_there v.control.site all.0.site, stand shape seat views all.1)

-- so do the first of them
pub first_stand : (shape : Shape) (seat n : ℕ) (views : List View) (seen : List PureView) → map view_seen views ≡ take n seen → AllByRecursion (Counts shape seat) seen →
    All (λ (v : View). IsSome v.control.site) views
first_stand shape seat n views seen is all =
    All-from_recursion (λ (v : View). IsSome v.control.site) views
    (stand shape seat views (subst (AllByRecursion (Counts shape seat)) (sym is) (take_each (Counts shape seat) n seen all)))
