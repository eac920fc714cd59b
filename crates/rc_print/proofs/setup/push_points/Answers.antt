use Rattle.std.proofs.Common.{◌≡◌, ℕ, List, [], ◌∷◌, ◌++◌, map, codes, slice_index_or, ap, ◌∙◌, append_assoc, append-nil}
use Rattle.rc_base.specs.Tree.{printed_parts}
use Rattle.rc_deck.specs.Points.{entry_of}
use Rattle.rc_sheet_spec.specs.Printing.{packed, entry_form}
use Rattle.rc_print.specs.Printing.{naming_seen}
use Rattle.rc_print.proofs.Added.{start, then, last}
use Rattle.rc_print.proofs.setup.push_points.Goals as goal

-- the bytes of a map's line, where o, s and e are a parenthesis that opens, a space and a parenthesis that closes
points_bytes : (o s e put points name entries : List ℕ)
    → (((((o ++ (put ++ (s ++ points))) ++ s) ++ name) ++ (s ++ o)) ++ entries) ++ (e ++ e)
    ≡ o ++ ((put ++ (s ++ (points ++ (s ++ (name ++ (s ++ ((o ++ (entries ++ e)) ++ []))))))) ++ e)
points_bytes o s e put points name entries = simp (append_assoc, append-nil)

pub returns : goal.returns
returns c =
    let sheet = c.args.sheet.now in
    let name : List ℕ = slice_index_or sheet.names.maps.items c.args.number [] in
    let entries : List ℕ = printed_parts (packed (map (entry_form (naming_seen sheet))
    (map entry_of c.args.points.now.entries.items))) in
    let is_name : c.push_named.new.out.bytes.items ≡ c.space.new.self.bytes.items ++ name =
    c.in_ok-push_named.ensures ∙ ap (λ words. c.space.new.self.bytes.items
    ++ slice_index_or words c.args.number []) c.deref.ensures.value in
    let are_entries : c.push_entries.new.out.bytes.items ≡ c.keyword.new.self.bytes.items ++ entries =
    c.in_ok-push_entries.ensures
    ∙ ap (λ all. c.keyword.new.self.bytes.items ++ printed_parts (packed
    (map (entry_form (naming_seen sheet)) (map entry_of all)))) c.deref-2.ensures.value in
    let opened = then (40 ∷ codes "put points") (start c.args.out.now.bytes.items) c.in_ok-open.ensures in
    let first = then (32 ∷ []) opened c.in_ok-space.ensures in
    let second = then entries (then (codes " (") (then name first is_name) c.in_ok-keyword.ensures) are_entries in
    last _ (codes "))") _ c.keyword-2.result second c.keyword-2.ensures
    (points_bytes (40 ∷ []) (32 ∷ []) (41 ∷ []) (codes "put") (codes "points") name entries)
