use Rattle.std.proofs.Common.{◌≡◌, ◌∙◌, ap, sym, map, ◌∷◌, [], option_map, option_to_list}
use Rattle.std.specs.Map.{keys_of}
use Rattle.rc_deck.proofs.EachLemmas.{on_ok}
use Rattle.rc_resolve.specs.Known.{with_all, with_mentions, locs_alone, loc_seen, num_seen}
use Rattle.rc_resolve.proofs.Firsts.{seen_added}
use Rattle.rc_resolve.proofs.known.Known.add_location.Goals as goal

pub returns-in-Some : goal.returns-in-Some
returns-in-Some c =
    let known = c.self.inside in
    let entry = c.in-Some.entry in
    on_ok c.add_entry.result c.add_entry.ensures (λ added.
    let locs : map loc_seen c.add_entry.new.entries
    ≡ with_mentions (map loc_seen known.locs) (loc_seen entry ∷ []) =
    ap (map loc_seen) added ∙ seen_added loc_seen (λ mention. mention.name) known.locs (entry ∷ []) in
    ap
    (λ locs. record {
      attrs = keys_of known.attrs;
      values = keys_of known.values;
      maps = keys_of known.maps;
      locs = locs;
      nums = map num_seen known.nums;
      vars = keys_of known.vars;
    })
    locs
    ∙ ap (λ old. with_all old (locs_alone (loc_seen entry ∷ []))) c.self.view_is
    ∙ ap (λ found. with_all c.args.self.now (locs_alone (option_to_list (option_map loc_seen found)))) (sym c.in-Some.is))
