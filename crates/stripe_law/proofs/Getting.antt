-- A range that was read piece by piece is that of the slot that the read of the head showed.
use Rattle.std.proofs.Common.{◌≡◌, ℕ, zero, suc, ◌+◌, ◌≤◌, not, ◌==◌, ◌&&◌, inl, inr, true, false, cond, List, [], ◌∷◌, ◌++◌, length, map, filter, take, drop, nat_le, Option, Some, None, refl, sym, ◌∙◌, ap, subst, arith, length-take, length-drop}
use Rattle.std.specs.Prelude.{unwrap_or, slice_index_or}
use Rattle.std.specs.List.{AllByRecursion, AllZip, concat, list_any, range_with_len}
use Rattle.std.proofs.lemmas.Bool.Decides.{nat_tests}
use Rattle.std.proofs.lemmas.List.{nil_from_length}
use Rattle.std.proofs.lemmas.List.FromFn.{get_or-map-range_with_len}
use Rattle.rgw_types.specs.declared.stamp.Stamp.{Stamp}
use Rattle.rgw_types.specs.Stripes.{ManifestView, tails_of}
use Rattle.manifest.specs.declared.parts.Part.{Part}
use Rattle.manifest.specs.Ranges.{part_size, piece_at, has_bytes, parts_of, piece_bytes, bytes_along}
use Rattle.manifest.proofs.CoverLemmas.{covered, nothing_covered}
use Rattle.object_words.specs.declared.head.HeadSeen.{HeadSeen}
use Rattle.object_words.specs.declared.head.NewHead.{NewHead}
use Rattle.object_words.specs.declared.head.SeenSlot.TheVariants.{Live}
use Rattle.object_words.specs.declared.why.Why.TheVariants.{Gone}
use Rattle.object_words.specs.Keys.{head_key, tail_key}
use Rattle.object_words.specs.HeadCalls.{seen}
use Rattle.object_words.specs.Tails.{is_there, read_refusal, bytes_at}
use Rattle.realm_model.specs.Settings.{SettingsView}
use Rattle.realm_model.specs.States.{number_next, at_moment}
use Rattle.realm_model.specs.Steps.{reply_or, reply_of}
use Rattle.realm_model.specs.Phases.{SeenManifest}
use Rattle.realm_model.specs.Needs.{is_between}
use Rattle.realm_model.specs.Allowed.{meets_need}
use Rattle.realm_model.specs.Ops.{zone_of}
use Rattle.realm_model.specs.Maps.{Made, heads, whole_bytes, whole_slot}
use Rattle.realm_model.specs.Accounts.{slot_now}
use Rattle.realm_model.specs.Worlds.{World, start, actor_of, happens}
use Rattle.realm_model.specs.Histories.{run, world_of, state_of, IsNext, LegalFrom, Legal}
use Rattle.realm_model.specs.declared.op.Op.TheVariants.{HeadRead, TailRead}
use Rattle.realm_model.specs.declared.event.Reply.TheVariants.{Bytes as bytes_reply, Head as head_reply}
use Rattle.realm_model.specs.declared.event.Event.{Event}
use Rattle.realm_model.proofs.Computing.{left_of, right_of}
use Rattle.realm_model.proofs.ObjectLemmas.{number_same}
use Rattle.realm_model.proofs.Runs.{run-append, legal_front, legal_back, legal_both, last_is_next}
use Rattle.realm_model.proofs.MadeOnce.{tails_agree}
use Rattle.stripe_law.specs.Sizes.{IsOfSize, IsSized}
use Rattle.stripe_law.specs.Seen.{SizedAll}
use Rattle.stripe_law.specs.Tails.{Bytes}
use Rattle.stripe_law.specs.Reading.{IsPiece}
use Rattle.stripe_law.proofs.Knowing.{either_of, at_least}
use Rattle.stripe_law.proofs.Keeping.{stripes_hold, is_there_of}
use Rattle.stripe_law.proofs.Made.{made_stays}
use Rattle.stripe_law.proofs.Storing.{between_is, has_stripes, live_sized, slot_shown, made_bytes, made_contents, made_are_contents, made_whole}

-- ---- the parts of an object

part_at : (first : List ℕ) (f : ℕ → List ℕ) (n k : ℕ) → 1 ≤ k → k ≤ n → slice_index_or (first ∷ map f (range_with_len 1 n)) k [] ≡ f k
part_at first f n zero low high = absurd (omega (arith, low))
part_at first f n (suc k) low high = get_or-map-range_with_len f 1 n k (suc k) [] (omega (arith, high)) (omega arith)

head_at : (first : List ℕ) (rest : List (List ℕ)) (k : ℕ) → k ≡ 0 → slice_index_or (first ∷ rest) k [] ≡ first
head_at first rest k is = ap (λ n. slice_index_or (first ∷ rest) n []) is

above : (n : ℕ) → (n == 0) ≡ false → 1 ≤ n
above n some = grind (arith, nat_tests)

parts_low : (m : ManifestView) (from count a k : ℕ) → a + k ≤ tails_of m + 1 → AllByRecursion (λ (p : Part). p.part ≤ tails_of m) (filter has_bytes (map (piece_at m from count) (range_with_len a k)))
parts_low m from count a zero low = tt
parts_low m from count a (suc k) low =
    let rest = parts_low m from count (a + 1) k (omega (arith, low)) in
    elim (has_bytes (piece_at m from count a)) as (λ b. AllByRecursion (λ (p : Part). p.part ≤ tails_of m) (cond b (piece_at m from count a ∷ filter has_bytes (map (piece_at m from count) (range_with_len (a + 1) k))) (filter has_bytes (map (piece_at m from count) (range_with_len (a + 1) k))))) [
      | true ↦ (omega (arith, low), rest)
      | false ↦ rest
    ]

-- ---- an object without bytes

parts_nothing : (m : ManifestView) → m.size ≡ 0 → (from count a k : ℕ) → filter has_bytes (map (piece_at m from count) (range_with_len a k)) ≡ []
parts_nothing m none from count a zero = refl
parts_nothing m none from count a (suc k) =
    let empty : (piece_at m from count a).count ≡ 0 = omega (arith, none) in
    let later = filter has_bytes (map (piece_at m from count) (range_with_len (a + 1) k)) in
    ap (λ n. cond (not (n == 0)) (piece_at m from count a ∷ later) later) empty ∙ parts_nothing m none from count (a + 1) k

no_answers : (P : Part → List ℕ → Type 0) (answers : List (List ℕ)) → AllZip P [] answers → concat answers ≡ []
no_answers P [] zip = refl
no_answers P (b ∷ bs) zip = absurd zip

no_bytes : (bytes : List ℕ) (from count : ℕ) → bytes ≡ [] → take count (drop from bytes) ≡ []
no_bytes bytes from count none =
    let one = length-take count (drop from bytes) in
    let two = length-drop from bytes in
    let empty = ap length none in
    nil_from_length (take count (drop from bytes)) (omega (arith, one, two, empty))

-- ---- one answer

-- what is answered is what the tail has
answer_is : (settings : SettingsView) (w : World) (e : Event) (zone write part start count : ℕ) (bytes : List ℕ) → IsNext settings w e → Bytes w.state.tails w.stripes.made
    → e.op ≡ TailRead zone write part start count → e.reply ≡ bytes_reply bytes → bytes ≡ take count (drop start (made_bytes w.stripes.made zone write part))
answer_is settings w e zone write part start count bytes next tails op reply =
    let st = at_moment w.state e.moment in
    let tail = w.state.tails zone (tail_key write part) in
    let told : bytes_reply bytes ≡ reply_or (bytes_reply (bytes_at tail start count)) (read_refusal tail st.clock) =
    sym reply ∙ next.answer ∙ ap (λ o. reply_of settings st o) op in
    elim (read_refusal tail st.clock) as (λ r. bytes_reply bytes ≡ reply_or (bytes_reply (bytes_at tail start count)) r → bytes ≡ take count (drop start (made_bytes w.stripes.made zone write part))) [
      | None ↦ λ is. let same : bytes ≡ bytes_at tail start count = cc in same ∙ ap (λ b. take count (drop start b)) (tails zone write part)
      | Some why ↦ λ is. cc
    ] told

pub unwrapped_same : (o p : Option (List ℕ)) (size : ℕ) → IsOfSize o size → ((b : List ℕ) → o ≡ Some b → p ≡ Some b) → unwrap_or p [] ≡ unwrap_or o []
unwrapped_same None p size none same = absurd none
unwrapped_same (Some b) p size is same = ap (λ o. unwrap_or o []) (same b refl)

module _ (settings : SettingsView) (before later : List Event) (read : Event) (legal : Legal settings (before ++ read ∷ later)) where
  front : Legal settings before
  front = legal_front settings (start settings) before (read ∷ later) legal

  back : LegalFrom settings (world_of settings before) (read ∷ later)
  back = legal_back settings (start settings) before (read ∷ later) legal

  module _ (zone container : ℕ) (name : List ℕ) (shown : HeadSeen) (clock : ℕ) (new : NewHead) (stamp : Stamp)
      (op : read.op ≡ HeadRead zone container name) (reply : read.reply ≡ head_reply shown clock) (live : shown.slot ≡ Live new stamp) where
    head_is : ((state_of settings before).heads zone (head_key container name)).slot ≡ Live new stamp
    head_is =
        let st = at_moment (state_of settings before) read.moment in
        let told : head_reply shown clock ≡ head_reply (seen (st.heads zone (head_key container name)) (number_next st)) st.clock =
        sym reply ∙ back.0.answer ∙ ap (λ o. reply_of settings st o) op in
        let same : shown ≡ seen (st.heads zone (head_key container name)) (number_next st) = cc in
        sym (ap (λ (s : HeadSeen). s.slot) same) ∙ live

    pub read_slot : slot_now (heads before) (world_of settings before).stripes.made zone container name ≡ whole_slot (world_of settings before).stripes.made zone (Live new stamp)
    read_slot = slot_shown settings before front zone container name new stamp head_is

    sizes : (length new.first ≡ part_size new.manifest 0) × IsSized (world_of settings before).stripes.made zone new.manifest
    sizes = live_sized settings before front zone (head_key container name) new stamp head_is

    -- one answer, at an event behind the read
    pub answered : (earlier rest : List Event) (e : Event) → later ≡ earlier ++ e ∷ rest → (part from count : ℕ) (bytes : List ℕ) → 1 ≤ part → part ≤ tails_of new.manifest
        → e.op ≡ TailRead zone new.manifest.write part from count → e.reply ≡ bytes_reply bytes
        → bytes ≡ take count (drop from (made_bytes (world_of settings before).stripes.made zone new.manifest.write part))
    answered earlier rest e stands part from count bytes low high op reply =
        let behind : World = happens settings (world_of settings before) read in
        let whole = subst (λ es. LegalFrom settings behind es) stands back.1 in
        let ahead = legal_front settings behind earlier (e ∷ rest) whole in
        let next = (legal_back settings behind earlier (e ∷ rest) whole).0 in
        let all : Legal settings (before ++ read ∷ earlier) = legal_both settings (start settings) before (read ∷ earlier) front (back.0, ahead) in
        let tails = subst (λ (v : World). Bytes v.state.tails v.stripes.made) (run-append settings (start settings) before (read ∷ earlier)) (tails_agree settings (before ++ read ∷ earlier) all) in
        let told = answer_is settings (run settings behind earlier) e zone new.manifest.write part from count bytes next tails op reply in
        let same = unwrapped_same ((world_of settings before).stripes.made zone new.manifest.write part) ((run settings behind earlier).stripes.made zone new.manifest.write part) (part_size new.manifest part) (sizes.1 part low high)
        (λ b is. made_stays settings (world_of settings before) (read ∷ earlier) (back.0, ahead) (stripes_hold settings before front) zone new.manifest.write part b is) in
        told ∙ ap (λ b. take count (drop from b)) same

    -- a piece of the head, or of a tail
    piece_is : (p : Part) (bytes : List ℕ) → p.part ≤ tails_of new.manifest → IsPiece later zone new p bytes → bytes ≡ piece_bytes (made_contents (world_of settings before).stripes.made zone new) p
    piece_is p bytes high piece =
        let f = made_bytes (world_of settings before).stripes.made zone new.manifest.write in
        elim (p.part == 0) as (λ b. (p.part == 0) ≡ b → bytes ≡ piece_bytes (made_contents (world_of settings before).stripes.made zone new) p) [
          | true ↦ λ none.
              let zero : p.part ≡ 0 = number_same p.part 0 none in
              piece.of_head zero ∙ ap (λ b. take p.count (drop p.start b)) (sym (head_at new.first (map f (range_with_len 1 (tails_of new.manifest))) p.part zero))
          | false ↦ λ some.
              let low : 1 ≤ p.part = above p.part some in
              let a = piece.of_tail low in
              answered a.earlier a.rest a.event a.stands p.part p.start p.count bytes low high a.op a.reply
              ∙ ap (λ b. take p.count (drop p.start b)) (sym (part_at new.first f (tails_of new.manifest) p.part low high))
        ] refl

    pieces_are : (ps : List Part) (answers : List (List ℕ)) → AllByRecursion (λ (p : Part). p.part ≤ tails_of new.manifest) ps → AllZip (IsPiece later zone new) ps answers
        → concat answers ≡ bytes_along (made_contents (world_of settings before).stripes.made zone new) ps
    pieces_are [] [] high pieces = refl
    pieces_are [] (b ∷ bs) high pieces = absurd pieces
    pieces_are (p ∷ ps) [] high pieces = absurd pieces
    pieces_are (p ∷ ps) (b ∷ bs) high pieces =
        let here = piece_is p b high.0 pieces.0 in
        let rest = pieces_are ps bs high.1 pieces.1 in
        λ i. here i ++ rest i

    pub range_is : (from count : ℕ) (answers : List (List ℕ)) → AllZip (IsPiece later zone new) (parts_of new.manifest from count) answers
        → concat answers ≡ take count (drop from (whole_bytes (world_of settings before).stripes.made zone new))
    range_is from count answers pieces =
        let m = new.manifest in
        let made = (world_of settings before).stripes.made in
        let once = (stripes_hold settings before front).made_once in
        let are = made_are_contents made zone new sizes.0 sizes.1 in
        elim (has_stripes made (world_of settings before).stripes.ledger zone m once sizes.1) [
          | inl some ↦
              pieces_are (parts_of m from count) answers (parts_low m from count 0 (tails_of m + 1) (omega arith)) pieces
              ∙ covered m from count some (made_contents made zone new) are
              ∙ ap (λ b. take count (drop from b)) (made_whole made zone new)
          | inr none ↦
              no_answers (IsPiece later zone new) answers (subst (λ ps. AllZip (IsPiece later zone new) ps answers) (parts_nothing m none from count 0 (tails_of m + 1)) pieces)
              ∙ sym (no_bytes (whole_bytes made zone new) from count (sym (made_whole made zone new) ∙ nothing_covered m none (made_contents made zone new) are))
        ]

-- ---- what may be read is there

-- a tail was made, with so many bytes or more
IsLong : Option (List ℕ) → ℕ → Type 0
IsLong None size = ⊥
IsLong (Some bytes) size = size ≤ length bytes

long_enough : (o : Option (List ℕ)) (size wanted : ℕ) → wanted ≤ size → IsOfSize o size → IsLong o wanted
unfolding IsLong
long_enough None size wanted less none = none
long_enough (Some bytes) size wanted less is = omega (arith, less, is)

seen_long : (made : Made) (events zone write part from count : ℕ) (ss : List SeenManifest) → SizedAll events made ss
    → list_any (λ s. s.zone == zone && (s.manifest.write == write && (is_between 1 (tails_of s.manifest) part && nat_le (from + count) (part_size s.manifest part)))) ss ≡ true → IsLong (made zone write part) (from + count)
seen_long made events zone write part from count [] sized any = cc
seen_long made events zone write part from count (s ∷ ss) sized any =
    let m = s.manifest in
    let in_part = is_between 1 (tails_of m) part in
    let in_range = nat_le (from + count) (part_size m part) in
    elim (either_of (s.zone == zone && (m.write == write && (in_part && in_range))) (list_any (λ s. s.zone == zone && (s.manifest.write == write && (is_between 1 (tails_of s.manifest) part && nat_le (from + count) (part_size s.manifest part)))) ss) any) [
      | inr later ↦ seen_long made events zone write part from count ss sized.1 later
      | inl here ↦
          (let one = number_same s.zone zone (left_of (s.zone == zone) (m.write == write && (in_part && in_range)) here) in
          let rest = right_of (s.zone == zone) (m.write == write && (in_part && in_range)) here in
          let two = number_same m.write write (left_of (m.write == write) (in_part && in_range) rest) in
          let last = right_of (m.write == write) (in_part && in_range) rest in
          let range = between_is 1 (tails_of m) part (left_of in_part in_range last) in
          let less = at_least (from + count) (part_size m part) (right_of in_part in_range last) in
          let long = long_enough (made s.zone m.write part) (part_size m part) (from + count) less (sized.0.1 part range.0 range.1) in
          subst (λ z. IsLong (made z write part) (from + count)) one (subst (λ w. IsLong (made s.zone w part) (from + count)) two long))
    ]

long_is : (o : Option (List ℕ)) (size : ℕ) → IsLong o size → size ≤ length (unwrap_or o [])
unfolding IsLong
long_is None size none = absurd none
long_is (Some bytes) size is = is

module _ (settings : SettingsView) (history : List Event) (e : Event) (legal : Legal settings (history ++ e ∷ [])) (zone write part from count : ℕ) (op : e.op ≡ TailRead zone write part from count) where
  ahead : Legal settings history
  ahead = legal_front settings (start settings) history (e ∷ []) legal

  long : (1 ≤ count) × (from + count ≤ length (made_bytes (world_of settings history).stripes.made zone write part))
  long =
      let w = world_of settings history in
      let next = last_is_next settings history e legal in
      let phase = w.phases (actor_of e) in
      let need = subst (λ o. meets_need settings phase o ≡ true) op (right_of (is_between 1 settings.zones (zone_of e.op)) (meets_need settings phase e.op) next.may) in
      let test = list_any (λ s. s.zone == zone && (s.manifest.write == write && (is_between 1 (tails_of s.manifest) part && nat_le (from + count) (part_size s.manifest part)))) phase.stripes.seen in
      let some = at_least 1 count (left_of (nat_le 1 count) test need) in (
        some,
        long_is (w.stripes.made zone write part) (from + count)
            (seen_long w.stripes.made w.state.count zone write part from count phase.stripes.seen ((stripes_hold settings history ahead).seen_sizes (actor_of e)) (right_of (nat_le 1 count) test need)),
      )

  pub read_length : length (take count (drop from (made_bytes (world_of settings history).stripes.made zone write part))) ≡ count
  read_length =
      let b = made_bytes (world_of settings history).stripes.made zone write part in
      let high = long.1 in
      let one = length-take count (drop from b) in
      let two = length-drop from b in
      omega (arith, high, one, two)

  pub read_bytes : e.reply ≡ bytes_reply (take count (drop from (made_bytes (world_of settings history).stripes.made zone write part)))
  read_bytes =
      let w = world_of settings history in
      let st = at_moment w.state e.moment in
      let tail = w.state.tails zone (tail_key write part) in
      let same = tails_agree settings history ahead zone write part in
      let low = long.0 in
      let high = long.1 in
      let there : is_there tail ≡ true = is_there_of tail.bytes (omega (arith, low, high, ap length same)) in
      let next = last_is_next settings history e legal in
      next.answer ∙ ap (λ o. reply_of settings st o) op
      ∙ ap (λ b. reply_or (bytes_reply (bytes_at tail from count)) (cond b None (Some (Gone st.clock)))) there
      ∙ ap (λ b. bytes_reply (take count (drop from b))) same
