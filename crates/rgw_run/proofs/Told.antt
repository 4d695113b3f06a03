-- Where a clock told one moment, the events of calls brought it.
use Rattle.std.proofs.Common.{◌≡◌, ℕ, Bool, true, false, cond, List, [], ◌∷◌, ◌++◌, map, filter, sym, ◌∙◌, ap, subst, append_assoc}
use Rattle.std.specs.List.{AllByRecursion}
use Rattle.realm_model.specs.Phases.{ActorId}
use Rattle.realm_model.specs.Worlds.{same_actor, actor_of}
use Rattle.realm_model.specs.declared.event.Event.{Event}
use Rattle.realm_model.proofs.ObjectLemmas.{actor_itself}
use Rattle.realm_door.specs.Steps.{actor_of_pass}
use Rattle.call_words.specs.Calls.{Ground, alone, task, Call}
use Rattle.call_words.specs.Made.{AreMadeFor, AreMade}
use Rattle.call_service.specs.Serving.{is_by_end}
use Rattle.door_moments.specs.Acts.{own_moments, Tells}
use Rattle.gateway.specs.Moments.{AreToldFor, AreTold}
use Rattle.once_law.specs.Runs.{AreAt}

abbrev pub AreMoment : ℕ → List ℕ → Type 0
AreMoment moment moments = AllByRecursion (λ m. m ≡ moment) moments

pub both_are : (moment : ℕ) (xs ys : List ℕ) → AreMoment moment (xs ++ ys) → AreMoment moment xs × AreMoment moment ys
both_are moment [] ys are = (tt, are)
both_are moment (x ∷ xs) ys are = let rest = both_are moment xs ys are.1 in ((are.0, rest.0), rest.1)

module _ (moment : ℕ) (actor : ActorId) where
  -- the events behind others
  own_behind : (xs ys : List Event) → AreMoment moment (own_moments (xs ++ ys) actor) → AreMoment moment (own_moments ys actor)
  own_behind [] ys are = are
  own_behind (x ∷ xs) ys are =
      own_behind xs ys
      (elim (same_actor actor (actor_of x)) as (λ b. AreMoment moment (map (λ (e : Event). e.moment) (cond b (x ∷ filter (λ e. same_actor actor (actor_of e)) (xs ++ ys)) (filter (λ e. same_actor actor (actor_of e)) (xs ++ ys)))) → AreMoment moment (own_moments (xs ++ ys) actor)) [
        | true ↦ λ both. both.1
        | false ↦ λ same. same
      ] are)

  -- the events in front of others
  own_front : (xs ys : List Event) → AllByRecursion (λ e. actor_of e ≡ actor) xs → AreMoment moment (own_moments (xs ++ ys) actor) → AreAt moment xs
  own_front [] ys by are = tt
  own_front (x ∷ xs) ys by are =
      let itself : same_actor actor (actor_of x) ≡ true = subst (λ a. same_actor actor a ≡ true) (sym by.0) (actor_itself actor) in
      let rest = filter (λ e. same_actor actor (actor_of e)) (xs ++ ys) in
      let both = subst (λ b. AreMoment moment (map (λ (e : Event). e.moment) (cond b (x ∷ rest) rest))) itself are in
      (both.0, own_front xs ys by.1 both.1)

-- the moments of the events, one more or not
events_told : (moment : ℕ) (more : Bool) (told own : List ℕ) → Tells more told own → AreMoment moment told → AreMoment moment own
events_told moment true told own (last, is) are = (both_are moment own (last ∷ []) (subst (AreMoment moment) is are)).0
events_told moment false told own is are = subst (AreMoment moment) is are

at_all : (moment : ℕ) (xs ys : List Event) → AreAt moment xs → AreAt moment ys → AreAt moment (xs ++ ys)
at_all moment [] ys first second = second
at_all moment (x ∷ xs) ys first second = (first.0, at_all moment xs ys first.1 second)

module _ (pass moment : ℕ) (seen later : List Event) where
  ground_at : (before first others : List Event) (g : Ground) (moments : List ℕ) → seen ≡ before ++ (first ++ others) → AreToldFor (Unit {0}) seen pass g moments → AreMadeFor pass g first → AreMoment moment moments → AreAt moment first
  ground_at before first others alone moments is told own are = subst (AreAt moment) (sym own) tt
  ground_at before first others (task actor outcome) moments is told own are =
      let each = events_told moment (is_by_end outcome) moments (own_moments seen (actor_of_pass pass actor)) (told tt) are in
      let there = subst (λ l. AreMoment moment (own_moments l (actor_of_pass pass actor))) is each in
      own_front moment (actor_of_pass pass actor) first others own (own_behind moment (actor_of_pass pass actor) before (first ++ others) there)

  pub calls_at : (before events : List Event) (calls : List Call) (moments rest : List ℕ) → seen ≡ before ++ (events ++ later) → AreTold (Unit {0}) seen pass calls moments rest → AreMade pass calls events [] → AreMoment moment moments → AreAt moment events
  calls_at before events [] moments rest is told made are = subst (AreAt moment) (sym made) tt
  calls_at before events (call ∷ calls) moments rest is (ms, others_ms, joined, for_call, told) (first, others, both, own, made) are =
      let parts = both_are moment ms others_ms (subst (AreMoment moment) joined are) in
      let here : seen ≡ before ++ (first ++ (others ++ later)) = is ∙ ap (λ l. before ++ (l ++ later)) both ∙ ap (λ l. before ++ l) (append_assoc first others later) in
      let further : seen ≡ (before ++ first) ++ (others ++ later) = here ∙ sym (append_assoc before first (others ++ later)) in
      subst (AreAt moment) (sym both)
      (at_all moment first others (ground_at before first (others ++ later) call.ground ms here for_call own parts.0) (calls_at (before ++ first) others calls others_ms rest further told made parts.1))
