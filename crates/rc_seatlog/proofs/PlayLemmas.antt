-- A play goes from choice to choice.
use Rattle.std.proofs.Common.{◌≡◌, ℕ, zero, suc, ◌+◌, ◌<◌, List, [], ◌∷◌, ◌++◌, append_assoc, length, map, take, drop, get_or, unwrap_or, Option, None, Some, refl, sym, ap, ◌∙◌, subst, arith}
use Rattle.std.proofs.lemmas.List.{at_drop_more}
use Rattle.rc_base.specs.Transcript.{Pick}
use Rattle.rc_play_spec.specs.About.{About, menu_at}
use Rattle.rc_play_spec.specs.Effects.{Dealing}
use Rattle.rc_play_spec.specs.Step.{Config, Stop, decide, is_done, is_limit}
use Rattle.rc_play_spec.specs.Stop.{Stopped}
use Rattle.rc_play_spec.specs.Decision.{choose}
use Rattle.rc_play_spec.specs.Play.{stop_behind}
use Rattle.rc_play_spec.specs.Legal.{IsMade, Leads}
use Rattle.rc_play_spec.specs.Step.{start}
use Rattle.rc_play_spec.specs.Stop.{stop_of}
use Rattle.rc_play_spec.specs.View.{View, view_of}
use Rattle.rc_log_spec.specs.Views.{views_from}
use Rattle.rc_log_spec.specs.Plays.{IsPlayOf}
use Rattle.rc_play_spec.proofs.FieldLemmas.{some_is}
use Rattle.rc_rules.specs.declared.record.Pick.{Pick as CodePick}
use Rattle.rc_rules.specs.Record.{pick_seen}
use Rattle.rc_rules.specs.Machine.{StopsAtDecision, IsWhereItStops, menu_here}

abbrev Goes : About → Dealing ℕ → List CodePick → ℕ → Pick → Stopped ℕ → Stopped ℕ → Type 0
Goes about dealing picks i p at end =
    IsMade about p at.stop at.config
    × (next : Stopped ℕ) × (stop_behind about dealing (choose about dealing at.dealer p.item at.config) ≡ Some next)
    × Leads about dealing (map pick_seen (drop (i + 1) picks)) next end

-- the choice that comes next
pub goes : (about : About) (dealing : Dealing ℕ) (picks : List CodePick) (i : ℕ) (d : CodePick) (at end : Stopped ℕ) → i < length picks →
    Leads about dealing (map pick_seen (drop i picks)) at end → Goes about dealing picks i (pick_seen (get_or picks i d)) at end
goes about dealing picks i d at end less leads = subst (λ ps. Leads about dealing ps at end) (at_drop_more (map pick_seen) picks i d less) leads

-- it is made at a decision, out of the menu there
pub stands_there : (about : About) (p : Pick) (stop : Stop) (c : Config) → IsWhereItStops about stop c → IsMade about p stop c → StopsAtDecision about c
stands_there about p (decide seat site) c stands made = (seat, site, stands)
stands_there about p is_done c stands made = absurd made
stands_there about p is_limit c stands made = absurd made

pub offered_there : (about : About) (p : Pick) (stop : Stop) (c : Config) → IsWhereItStops about stop c → IsMade about p stop c → p.item < length (menu_here about c)
offered_there about p (decide seat site) c stands made =
    let here : length (menu_here about c) ≡ length (menu_at about site c.table c.control) =
    ap (λ site. length (menu_at about (unwrap_or site 0) c.table c.control)) stands.decision.stands in
    let size : p.size ≡ length (menu_at about site c.table c.control) = ap (λ (p : Pick). p.size) made.0 in
    omega (arith, made.1, size, here)
offered_there about p is_done c stands made = absurd made
offered_there about p is_limit c stands made = absurd made

abbrev at_stop : Stop → Config → ℕ → Stopped ℕ
at_stop stop c k = record { stop = stop; config = c; dealer = k }

-- the play begins where the machine stops first
pub begins : (about : About) (dealing : Dealing ℕ) (picks : List Pick) (stop : Stop) (c : Config) (k : ℕ) → IsPlayOf about dealing picks →
    stop_of about dealing 0 (start about) ≡ Some (at_stop stop c k) → (end : Stopped ℕ) × Leads about dealing picks (at_stop stop c k) end
begins about dealing picks stop c k play e =
    let same : play.first ≡ at_stop stop c k = some_is play.first (at_stop stop c k) (sym play.begins ∙ e) in
    (play.end, subst (λ at. Leads about dealing picks at play.end) same play.leads)

-- what is left behind one choice
pub goes_on : (about : About) (dealing : Dealing ℕ) (picks : List CodePick) (i : ℕ) (d : CodePick) (at next : Stopped ℕ) → i < length picks →
    ((end : Stopped ℕ) × Leads about dealing (map pick_seen (drop i picks)) at end) →
    stop_behind about dealing (choose about dealing at.dealer (pick_seen (get_or picks i d)).item at.config) ≡ Some next →
    (end : Stopped ℕ) × Leads about dealing (map pick_seen (drop (i + 1) picks)) next end
goes_on about dealing picks i d at next less leads e =
    let g = goes about dealing picks i d at leads.0 less leads.1 in
    let same : g.1 ≡ next = some_is g.1 next (sym g.2 ∙ e) in
    (leads.0, subst (λ next. Leads about dealing (map pick_seen (drop (i + 1) picks)) next leads.0) same g.3)

-- and what was seen then
pub sees_on : (about : About) (dealing : Dealing ℕ) (seat : ℕ) (picks : List CodePick) (i : ℕ) (d : CodePick) (at next : Stopped ℕ) (before after : List View) (view : View) → i < length picks →
    after ≡ before ++ view ∷ [] → view ≡ view_of about.shape seat at.config.table at.config.control →
    stop_behind about dealing (choose about dealing at.dealer (pick_seen (get_or picks i d)).item at.config) ≡ Some next →
    after ++ views_from about dealing seat (map pick_seen (drop (i + 1) picks)) (Some next) ≡ before ++ views_from about dealing seat (map pick_seen (drop i picks)) (Some at)
sees_on about dealing seat picks i d at next before after view less e is leads =
    let rest = map pick_seen (drop (i + 1) picks) in
    ap (λ vs. vs ++ views_from about dealing seat rest (Some next)) (e ∙ ap (λ v. before ++ v ∷ []) is)
    ∙ append_assoc before (view_of about.shape seat at.config.table at.config.control ∷ []) (views_from about dealing seat rest (Some next))
    ∙ ap (λ o. before ++ (view_of about.shape seat at.config.table at.config.control ∷ views_from about dealing seat rest o)) (sym leads)
    ∙ ap (λ ps. before ++ views_from about dealing seat ps (Some at)) (sym (at_drop_more (map pick_seen) picks i d less))

-- the first choices of a play are a play, and give the first views
first_leads : (about : About) (dealing : Dealing ℕ) (n : ℕ) (picks : List Pick) (at end : Stopped ℕ) → Leads about dealing picks at end →
    (last : Stopped ℕ) × Leads about dealing (take n picks) at last
first_leads about dealing zero picks at end leads = (at, refl)
first_leads about dealing (suc n) [] at end leads = (end, leads)
first_leads about dealing (suc n) (p ∷ picks) at end leads =
    let rest = first_leads about dealing n picks leads.1 end leads.3 in (rest.0, (leads.0, leads.1, leads.2, rest.1))

pub first_play : (about : About) (dealing : Dealing ℕ) (n : ℕ) (picks : List Pick) → IsPlayOf about dealing picks → IsPlayOf about dealing (take n picks)
first_play about dealing n picks play =
    let leads = first_leads about dealing n picks play.first play.end play.leads in
    record { first = play.first; end = leads.0; begins = play.begins; leads = leads.1 }

pub first_views : (about : About) (dealing : Dealing ℕ) (seat n : ℕ) (picks : List Pick) (at : Option (Stopped ℕ)) →
    views_from about dealing seat (take n picks) at ≡ take n (views_from about dealing seat picks at)
first_views about dealing seat zero picks at = refl
first_views about dealing seat (suc n) [] at = refl
first_views about dealing seat (suc n) (p ∷ picks) None = refl
first_views about dealing seat (suc n) (p ∷ picks) (Some at) =
    ap (λ views. view_of about.shape seat at.config.table at.config.control ∷ views)
    (first_views about dealing seat n picks (stop_behind about dealing (choose about dealing at.dealer p.item at.config)))
