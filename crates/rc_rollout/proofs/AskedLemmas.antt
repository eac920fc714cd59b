-- What a rollout asks, and what that costs.
use Rattle.std.proofs.Common.{◌≡◌, ℕ, ◌*◌, [], ◌∷◌, Result, Ok, Err, OnOk, refl, sym, ap, ◌∙◌}
use Rattle.rc_play_spec.specs.About.{About}
use Rattle.rc_play_spec.specs.Strategy.{menu_size}
use Rattle.rc_play_spec.specs.Tally.{tally}
use Rattle.rc_rules.specs.declared.plan.Strategy.TheVariants.{Rollout}
use Rattle.rc_rules.specs.Plan.{strategy_seen}
use Rattle.rc_redraw.specs.declared.asking.Ask.{Ask}
use Rattle.rc_redraw.specs.declared.need.Need.{Need}
use Rattle.rc_redraw.specs.Asking.{Key, ask_seen, cost_of}
use Rattle.rc_redraw.specs.Choosing.{Asks, AsksAll, asked_by, asked_for}
use Rattle.rc_redraw.specs.Counts.{Counts}
use Rattle.rc_redraw.specs.Need.{need_seen}

-- the same ask by another name
pub same_cost : (about about' : About) (ask ask' : Ask) → about ≡ about' → ask ≡ ask' →
    (ask_seen ask).rounds * menu_size about (ask_seen ask).view ≡ cost_of (record { about = about'; ask = ask_seen ask' })
same_cost about about' ask ask' same same_ask =
    ap (λ a. (ask_seen ask).rounds * menu_size a (ask_seen ask).view) same
    ∙ ap (λ a. (ask_seen a).rounds * menu_size about' (ask_seen a).view) same_ask

pub same_tally : (about about' : About) (ask ask' : Ask) → about ≡ about' → ask ≡ ask' → tally about (ask_seen ask) ≡ tally about' (ask_seen ask')
same_tally about about' ask ask' same same_ask =
    ap (λ a. tally a (ask_seen ask)) same ∙ ap (λ a. tally about' (ask_seen a)) same_ask

-- a rollout asks one key
pub asked_alone : (need : Need) (rounds number : ℕ) (key : Key) → need.strategy ≡ Rollout rounds number →
    key ≡ record {
      about = (need_seen need).about;
      ask = record { rounds = rounds; key = number; seed = (need_seen need).seed; view = (need_seen need).view };
    } → key ∷ [] ≡ asked_for (need_seen need)
asked_alone need rounds number key is same =
    ap (λ k. k ∷ []) same
    ∙ sym (ap (λ s. asked_by (need_seen need).about (strategy_seen s) (need_seen need).seed (need_seen need).view) is)

pub asks_alone : (key : Key) (before after : Counts) (n n' : ℕ) → Asks key before after n n' → AsksAll (key ∷ []) before after n n'
asks_alone key before after n n' asks = (after, n', asks, (refl, refl))

pub on_ok : {T E : Type 0} (r : Result T E) (P Q : Type 0) → (P → Q) → OnOk r P → OnOk r Q
on_ok (Ok x) P Q so is = so is
on_ok (Err e) P Q so is = tt
