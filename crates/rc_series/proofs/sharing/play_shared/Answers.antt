use Rattle.std.proofs.Common.{◌≡◌, ℕ, length, map, sym, ap, ◌∙◌, subst, arith, rules}
use Rattle.std.proofs.lemmas.List.{length-map}
use denote.Exit
use denote.Param
use denote.Param.Send.{arg_send, param_send}
use mir.Syntax
use Rattle.rc_rules.specs.Plan.{plan_seen}
use Rattle.rc_code.specs.Seen.{code_seen}
use Rattle.rc_code.specs.Stands.{StandsFor}
use Rattle.rc_cache.specs.Memos.{shared_counts}
use Rattle.rc_cache.specs.Sums.{Lane}
use Rattle.rc_series.specs.Series.{looks_of}
use Rattle.rc_series.specs.Gathered.{RiseTogether}
use Rattle.rc_series.proofs.LaneLemmas.{all_so, map_twice}
use Rattle.rc_series.proofs.SharedBooks.{choices_send, memo_send}
use Rattle.rc_series.proofs.sharing.play_shared.Goals as goal

pub play_claimed-requires-send-C : goal.play_claimed-requires-send-C
play_claimed-requires-send-C g c κs within =
    param_send 0 _ (arg_send _ Exit.yes _ (choices_send _ (memo_send (Param.param 0 g.row.N) g.N.BookNaming record { mir = Syntax.named 5; lft = κs.1.1.1.1.1.0 } (Param.param 1 g.row.R) c.type_bounds.sync-R)))

pub play_claimed-requires-clause-choosers : goal.play_claimed-requires-clause-choosers
play_claimed-requires-clause-choosers g c κs within =
    let many = sym (length-map c.in-Ok-choosers_of.choosers.items (λ c. c.memo)) ∙ ap length c.in-Ok-choosers_of.ensures.memos in
    (omega (arith, many, c.requires.memos.0), omega (arith, many, c.requires.memos.1))

pub play_claimed-requires-clause-served : goal.play_claimed-requires-clause-served
play_claimed-requires-clause-served g c κs within =
    let stands : StandsFor c.args.about.now.value.sheet (code_seen c.in-Ok.code.value) = search rules in
    all_so (λ c'. (c'.ground ≡ c.args.about.now.value) × (c'.code.value ≡ c.in-Ok.code.value))
    (λ c'. (c.args.about.now.value ≡ c'.ground) × (g.N.BookNaming.about ≡ c.args.about.now.value)
    × StandsFor c.args.about.now.value.sheet (code_seen c'.code.value))
    (λ c' same. (
      sym same.0,
      c.requires.about,
      subst (λ code. StandsFor c.args.about.now.value.sheet
          (code_seen code)) (sym same.1) stands,
    ))
    c.in-Ok-choosers_of.choosers.items c.in-Ok-choosers_of.ensures.code

pub returns-clause-rise : goal.returns-clause-rise
returns-clause-rise g c =
    let looks = length (looks_of c.args.about.now.value (plan_seen c.args.plan.now.value)) in
    let before = c.in-Ok-choosers_of.choosers.items in
    let after = c.in-Ok-play_claimed.played.1.items in
    let first = map_twice (λ c. c.memo) shared_counts before ∙ ap (map shared_counts) c.in-Ok-choosers_of.ensures.memos in
    let last = map_twice (λ c. c.memo) shared_counts after ∙ ap (map shared_counts) (sym c.in-Ok-lanes_of.ensures) in
    subst (λ counts. RiseTogether looks counts (map shared_counts c.in-Ok-lanes_of.lanes.items)) first
    (subst (RiseTogether looks (map (λ c. shared_counts c.memo) before)) last c.in-Ok-play_claimed.ensures.rise)

pub returns-clause-lanes : goal.returns-clause-lanes
returns-clause-lanes g c =
    let before = c.in-Ok-choosers_of.choosers.items in
    let after = c.in-Ok-play_claimed.played.1.items in
    ap length c.in-Ok-lanes_of.ensures ∙ length-map after (λ c. c.memo) ∙ sym (length-map after (λ c. shared_counts c.memo))
    ∙ c.in-Ok-play_claimed.ensures.rise.each ∙ length-map before (λ c. shared_counts c.memo) ∙ sym (length-map before (λ c. c.memo))
    ∙ ap length c.in-Ok-choosers_of.ensures.memos

pub returns-clause-order : goal.returns-clause-order
returns-clause-order g c =
    let before = c.in-Ok-choosers_of.choosers.items in
    let after = c.in-Ok-play_claimed.played.1.items in
    let number : Lane → ℕ = λ lane. lane.number in
    ap (map number) c.in-Ok-lanes_of.ensures ∙ sym (map_twice (λ c. c.memo) number after) ∙ c.in-Ok-play_claimed.ensures.order
    ∙ map_twice (λ c. c.memo) number before ∙ ap (map number) c.in-Ok-choosers_of.ensures.memos
