use Rattle.std.proofs.Common.{◌≡◌, ℕ, ◌<◌, length, slice_get, Some, get_or, arith, ap, ◌∙◌, sym, subst}
use Rattle.std.proofs.lemmas.List.{get_or_default}
use Rattle.std.proofs.lemmas.Option.{slice_get-get_or}
use Rattle.rc_play_spec.specs.Table.{IsSound, list_at, place_of}
use Rattle.rc_table.specs.Laid.{Laid}
use Rattle.rc_table.specs.Whereabouts.{whereabouts}
use Rattle.rc_table.proofs.WhereaboutLemmas.{nowhere, noted_of, noted_all, stands}
use Rattle.rc_table.proofs.table.Table.place_of.Goals as goal

pub index-requires : goal.index-requires
index-requires c =
    let laid = c.args.self.now in
    let noted = c.self.invariant.noted ∙ ap (λ (laid : Laid). whereabouts laid.shape laid.table) c.self.view_is in
    let long = ap length noted ∙ noted_all laid.shape laid.table in
    omega (arith, c.requires, long, c.self.inside.whereabouts.ok.0)

pub returns-clause-place : goal.returns-clause-place
returns-clause-place c =
    let id = c.args.id in
    let laid = c.args.self.now in
    let stand = c.self.inside.whereabouts.items in
    let noted = c.self.invariant.noted ∙ ap (λ (laid : Laid). whereabouts laid.shape laid.table) c.self.view_is in
    let long = ap length noted ∙ noted_all laid.shape laid.table in
    c.index.ensures ∙ get_or_default stand id c.index.result.now nowhere (omega (arith, c.requires, long)) ∙ ap (λ stand. get_or stand id nowhere) noted
    ∙ noted_of laid.shape laid.table id c.requires

pub returns-clause-there : goal.returns-clause-there
returns-clause-there c =
    let id = c.args.id in
    let laid = c.args.self.now in
    let stand = c.self.inside.whereabouts.items in
    let noted = c.self.invariant.noted ∙ ap (λ (laid : Laid). whereabouts laid.shape laid.table) c.self.view_is in
    let long = ap length noted ∙ noted_all laid.shape laid.table in
    let sound = subst (λ (laid : Laid). IsSound laid.shape laid.table) c.self.view_is c.self.invariant.sound in
    let is = c.index.ensures ∙ get_or_default stand id c.index.result.now nowhere (omega (arith, c.requires, long)) ∙ ap (λ stand. get_or stand id nowhere) noted
    ∙ noted_of laid.shape laid.table id c.requires in
    subst (λ (at : ℕ × ℕ). at.1 < length (list_at laid.table at.0)) (sym is) (stands laid.shape laid.table sound id c.requires).1

pub returns-clause-stands : goal.returns-clause-stands
returns-clause-stands c =
    let id = c.args.id in
    let laid = c.args.self.now in
    let sound = subst (λ (laid : Laid). IsSound laid.shape laid.table) c.self.view_is c.self.invariant.sound in
    let s = stands laid.shape laid.table sound id c.requires in
    let at = place_of laid.shape laid.table id in
    subst (λ (at : ℕ × ℕ). slice_get (list_at laid.table at.0) at.1 ≡ Some id) (sym (returns-clause-place c))
    (slice_get-get_or (list_at laid.table at.0) at.1 0 s.1 ∙ ap Some s.2)
