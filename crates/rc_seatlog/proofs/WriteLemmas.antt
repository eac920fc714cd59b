-- Loops that write parts in a row: what one more part adds.
use Rattle.std.proofs.Common.{◌≡◌, ℕ, ◌+◌, ◌<◌, List, [], ◌∷◌, ◌++◌, length, map, take, flat_map, get_or, sym, ap, ◌∙◌, append_assoc, append-nil, arith}
use Rattle.std.proofs.lemmas.List.{map_push, take_more, take-map, length-map, length-take}
use Rattle.std.proofs.lemmas.List.Concat.{flat_map-append}
use Rattle.rc_base.specs.Transcript.{line}
use Rattle.rc_view.specs.declared.sight.Sight.{Sight}
use Rattle.rc_view.specs.declared.view.View.{View}
use Rattle.rc_view.specs.Seen.{sight_seen, view_seen}
use Rattle.rc_play_spec.specs.View.{Sight as PureSight, View as PureView}
use Rattle.rc_log_spec.specs.Lines.{header_text, opening_text, place_text, total_text}
use Rattle.rc_log_spec.specs.Log.{most_told, place_lines, block_lines, blocks_from, text_of, log}

place_lines_more : (n : ℕ) (lists : List PureSight) (sight : PureSight) (m : ℕ) → n + length lists ≡ m → place_lines n (lists ++ sight ∷ []) ≡ place_lines n lists ++ place_text m sight ∷ []
place_lines_more n [] sight m e = let same : n ≡ m = omega (arith, e) in ap (λ k. place_text k sight ∷ []) same
place_lines_more n (list ∷ lists) sight m e = ap (λ t. place_text n list ∷ t) (place_lines_more (n + 1) lists sight m (omega (arith, e)))

blocks_more : (n : ℕ) (views : List PureView) (v : PureView) (m : ℕ) → n + length views ≡ m → blocks_from n (views ++ v ∷ []) ≡ blocks_from n views ++ block_lines m v
blocks_more n [] v m e = let same : n ≡ m = omega (arith, e) in append-nil (block_lines n v) ∙ ap (λ k. block_lines k v) same
blocks_more n (w ∷ views) v m e =
    ap (λ t. block_lines n w ++ t) (blocks_more (n + 1) views v m (omega (arith, e))) ∙ sym (append_assoc (block_lines n w) (blocks_from (n + 1) views) (block_lines m v))

abbrev pub sights_of : List Sight → List PureSight
sights_of sights = map sight_seen sights

abbrev pub seen_of : List View → List PureView
seen_of views = map view_seen views

cards_more : (sights : List Sight) (i : ℕ) (d : Sight) → i < length sights → sights_of (take (i + 1) sights) ≡ sights_of (take i sights) ++ sight_seen (get_or sights i d) ∷ []
cards_more sights i d less =
    ap sights_of (take_more sights i d less) ∙ map_push sight_seen (take i sights) (get_or sights i d)

shown_more : (views : List View) (i : ℕ) (d : View) → i < length views → seen_of (take (i + 1) views) ≡ seen_of (take i views) ++ view_seen (get_or views i d) ∷ []
shown_more views i d less =
    ap seen_of (take_more views i d less) ∙ map_push view_seen (take i views) (get_or views i d)

long_cards : (sights : List Sight) (i : ℕ) → i < length sights → 0 + length (sights_of (take i sights)) ≡ i
long_cards sights i less = omega (arith, less, length-map (take i sights) sight_seen, length-take i sights)

long_shown : (views : List View) (i : ℕ) → i < length views → 0 + length (seen_of (take i views)) ≡ i
long_shown views i less = omega (arith, less, length-map (take i views) view_seen, length-take i views)

-- one location more
pub places_step : (old out new : List ℕ) (sights : List Sight) (i : ℕ) (d : Sight) → i < length sights → out ≡ old ++ flat_map line (place_lines 0 (sights_of (take i sights))) →
    new ≡ out ++ line (place_text i (sight_seen (get_or sights i d))) → new ≡ old ++ flat_map line (place_lines 0 (sights_of (take (i + 1) sights)))
places_step old out new sights i d less so_far is =
    let text = place_text i (sight_seen (get_or sights i d)) in
    let front = place_lines 0 (sights_of (take i sights)) in
    let more : place_lines 0 (sights_of (take (i + 1) sights)) ≡ front ++ text ∷ [] =
    ap (place_lines 0) (cards_more sights i d less) ∙ place_lines_more 0 (sights_of (take i sights)) (sight_seen (get_or sights i d)) i (long_cards sights i less) in
    is ∙ ap (λ t. t ++ line text) so_far ∙ append_assoc old (flat_map line front) (line text)
    ∙ ap (λ t. old ++ t) (sym (ap (flat_map line) more ∙ flat_map-append line front (text ∷ []) ∙ ap (λ t. flat_map line front ++ t) (append-nil (line text))))

-- one stop more
pub blocks_step : (old out new : List ℕ) (views : List View) (i : ℕ) (d : View) → i < length views → out ≡ old ++ flat_map line (blocks_from 0 (seen_of (take i views))) →
    new ≡ out ++ flat_map line (block_lines i (view_seen (get_or views i d))) → new ≡ old ++ flat_map line (blocks_from 0 (seen_of (take (i + 1) views)))
blocks_step old out new views i d less so_far is =
    let block = block_lines i (view_seen (get_or views i d)) in
    let front = blocks_from 0 (seen_of (take i views)) in
    let more : blocks_from 0 (seen_of (take (i + 1) views)) ≡ front ++ block =
    ap (blocks_from 0) (shown_more views i d less) ∙ blocks_more 0 (seen_of (take i views)) (view_seen (get_or views i d)) i (long_shown views i less) in
    is ∙ ap (λ t. t ++ flat_map line block) so_far ∙ append_assoc old (flat_map line front) (flat_map line block)
    ∙ ap (λ t. old ++ t) (sym (ap (flat_map line) more ∙ flat_map-append line front block))

-- the parts of a log make its text
pub text_is : (seat number : ℕ) (views : List View) (stops : ℕ) (out₀ out₁ out₂ out₃ bytes : List ℕ) → out₀ ≡ [] → out₁ ≡ out₀ ++ (line header_text ++ line (opening_text seat number)) →
    out₂ ≡ out₁ ++ flat_map line (blocks_from 0 (seen_of views)) → out₃ ≡ out₂ ++ line (total_text stops) → bytes ≡ out₃ →
    bytes ≡ text_of (record { seat = seat; number = number; views = seen_of views; stops = stops })
text_is seat number views stops out₀ out₁ out₂ out₃ bytes e₀ e₁ e₂ e₃ e =
    let h = line header_text in
    let o = line (opening_text seat number) in
    let blocks = blocks_from 0 (seen_of views) in
    let b = flat_map line blocks in
    let t = line (total_text stops) in
    e ∙ e₃ ∙ ap (λ x. x ++ t) (e₂ ∙ ap (λ x. x ++ b) (e₁ ∙ ap (λ x. x ++ (h ++ o)) e₀))
    ∙ append_assoc (h ++ o) b t ∙ append_assoc h o (b ++ t)
    ∙ ap (λ x. h ++ (o ++ x)) (sym (flat_map-append line blocks (total_text stops ∷ []) ∙ ap (λ x. b ++ x) (append-nil t)))

-- with the first views and the number of all, it is that of all
pub log_is : (seat number : ℕ) (views first : List View) → first ≡ take most_told views →
    text_of (record { seat = seat; number = number; views = seen_of first; stops = length views }) ≡ log seat number (map view_seen views)
log_is seat number views first few =
    let told : seen_of first ≡ take most_told (seen_of views) = ap seen_of few ∙ sym (take-map view_seen most_told views) in
    let all : length views ≡ length (seen_of views) = sym (length-map views view_seen) in
    λ i. text_of (record { seat = seat; number = number; views = told i; stops = all i })
