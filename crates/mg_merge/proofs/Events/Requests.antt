-- A request of a shard that reaches its gateway reaches that of the merge: it is executed there with the same reply and notes, or the same reply
-- is sent once more, or nothing happens.
use Rattle.std.proofs.Common.{◌≡◌, ◌∙◌, ◌+◌, ◌++◌, ◌≤◌, ℕ, Bool, true, false, List, [], ◌∷◌, length, Option, Some, None, is_some, refl, sym, ap, subst, inl}
use Rattle.std.proofs.Common.{inr, ◌==◌, Contains, if◌then◌else◌}
use Rattle.mg_merge.proofs.Words.{All-nil, Board, CallLink, ChosenRefusal, Contains-append_right, Done, Eph, Executes, Failure, Gateway, HasIdentifiersLeft}
use Rattle.mg_merge.proofs.Words.{IsFirst, IsRepeat, IsSettled, Offer, RaisedNote, Reply, Request, Running, Script, SentNote, World, after_request, at_another}
use Rattle.mg_merge.proofs.Words.{creator_after, discard, exists, first_or_later, last_number, none_is_some, not_both, numbered, offer, offer_to, reply_of}
use Rattle.mg_merge.proofs.Words.{sent_notes, start_of, the_some, true_from_ne_false, with_gateway}
use Rattle.mg_model.proofs.Offered.{kept_at}
use Rattle.mg_merge.proofs.Events.AgentNames.{IsReplyWithin}
use Rattle.mg_merge.proofs.Events.AgentSteps.{Follows, leaves_itself, another_number, added_to_both, follows_so}
use Rattle.mg_merge.proofs.Commands.NamedItems.{IsDoneBy}
use Rattle.mg_merge.proofs.Commands.RequestRuns.{RunsBeside, EndsBeside, runs_too, same_outside}
use Rattle.mg_merge.proofs.Scopes.{Scope, IsWithin}
use Rattle.mg_merge.proofs.Events.Settled.{settled_by, settled_within, merge_settled, settled_part, settled_whole, settled_outside}
use Rattle.mg_merge.proofs.Events.Worlds.{IsContained, IsBeside, IsMerge}

-- ---- what a link offers

abbrev offered : Request → Bool → ℕ → CallLink → Offer Reply
offered request retired association link =
    if retired then discard else offer (record { association = association; last = numbered link.last }) request.association request.number

offer_same : (s : Scope) (w m : World) → IsBeside s w m → (request : Request) → s.numbers request.call ≡ true
    → offer_to m.gateway request ≡ offer_to w.gateway request
offer_same s w m along request own =
    ap (λ (retired : Bool). offered request retired m.gateway.association (m.gateway.link request.call)) (along.retired request.call own)
    ∙ ap (λ (association : ℕ). offered request (w.gateway.retired request.call) association (m.gateway.link request.call)) along.association
    ∙ ap (λ (link : CallLink). offered request (w.gateway.retired request.call) w.gateway.association link) (along.link request.call own)

-- ---- one that is executed

-- the link of its call after it
abbrev link_made : Request → Option Failure → CallLink → List Done → List RaisedNote → CallLink
link_made request failure link results notes = record {
  last = Some (record { call = request.call; association = request.association; number = request.number; results = results; failure = failure });
  notes = link.notes + length notes;
}

-- the world after it
abbrev answered_world : World → Gateway → Reply → List SentNote → World
answered_world w g answer sent = record (with_gateway w g) { replies = answer ∷ w.replies; notes = sent ++ w.notes }

module _ (script : Script) (s : Scope) (w m : World) (contained : IsContained script s w) (along : IsBeside s w m) (merge : IsMerge m)
    (request : Request) (own : s.numbers request.call ≡ true) (end : Running) (settled : Board) (failure : Option Failure) (chosen : Option ChosenRefusal)
    (is_settled : IsSettled end.board settled)
    (ends : EndsBeside s request.number chosen (start_of m.gateway) 0 request.commands end failure) where
  within_end : IsWithin s end.board
  within_end = ends.beside_it.within

  abbrev merged_board : Board
  merged_board = settled_by s settled m.gateway.board ends.merged.board

  -- ---- whose an ephemeral is

  created_from : (k c : ℕ) → creator_after w.gateway request end k ≡ Some c → (s.class k ≡ true) × (s.numbers c ≡ true)
  created_from k c = go (exists end.board (Eph k)) (exists w.gateway.board (Eph k)) refl
    where
      go : (stands used : Bool) → exists end.board (Eph k) ≡ stands
          → (if stands then (if used then w.gateway.creator k else Some request.call) else None) ≡ Some c → (s.class k ≡ true) × (s.numbers c ≡ true)
      go true true e is = ((within_end.ephemerals k e).1, (contained.creator k c is).1)
      go true false e is = ((within_end.ephemerals k e).1, ap s.numbers (sym (the_some request.call c is)) ∙ own)
      go false used e is = absurd (none_is_some c is)

  created_same : (k : ℕ) → s.class k ≡ true → creator_after m.gateway request ends.merged k ≡ creator_after w.gateway request end k
  created_same k its =
      ap (λ (stands : Bool). if stands then (if exists m.gateway.board (Eph k) then m.gateway.creator k else Some request.call) else None)
      (ap is_some (ends.beside_it.part.row (Eph k) its))
      ∙ ap (λ (stood : Bool). if exists end.board (Eph k) then (if stood then m.gateway.creator k else Some request.call) else None)
      (ap is_some (along.board.row (Eph k) its))
      ∙ ap (λ (was : Option ℕ). if exists end.board (Eph k) then (if exists w.gateway.board (Eph k) then was else Some request.call) else None)
      (along.creator k its)

  created_other : (k : ℕ) → s.class k ≡ false → creator_after m.gateway request ends.merged k ≡ m.gateway.creator k
  created_other k other =
      ap (λ (stands : Bool). if stands then (if exists m.gateway.board (Eph k) then m.gateway.creator k else Some request.call) else None)
      (ap is_some (ends.others.board.row (Eph k) other))
      ∙ go (exists m.gateway.board (Eph k)) refl
    where
      go : (stands : Bool) → exists m.gateway.board (Eph k) ≡ stands
          → (if stands then (if stands then m.gateway.creator k else Some request.call) else None) ≡ m.gateway.creator k
      go true e = refl
      go false e = sym (merge.creator k e)

  created_own : (k c : ℕ) → creator_after m.gateway request ends.merged k ≡ Some c → s.numbers c ≡ true → s.class k ≡ true
  created_own k c is its = true_from_ne_false (s.class k) (λ e. not_both (along.own_creator k c (sym (created_other k e) ∙ is) its) e)

  created_none : (k : ℕ) → exists ends.merged.board (Eph k) ≡ false → creator_after m.gateway request ends.merged k ≡ None
  created_none k e = ap (λ (stands : Bool). if stands then (if exists m.gateway.board (Eph k) then m.gateway.creator k else Some request.call) else None) e

  -- ---- links

  made_same : link_made request failure (m.gateway.link request.call) ends.merged.results ends.merged.notes
      ≡ link_made request failure (w.gateway.link request.call) end.results end.notes
  made_same =
      ap (λ (link : CallLink). link_made request failure link ends.merged.results ends.merged.notes) (along.link request.call own)
      ∙ ap (λ (results : List Done). link_made request failure (w.gateway.link request.call) results ends.merged.notes) ends.beside_it.results
      ∙ ap (λ (notes : List RaisedNote). link_made request failure (w.gateway.link request.call) end.results notes) ends.beside_it.notes

  link_within : (c : ℕ) (answer : Reply) → ((after_request w.gateway request end settled failure).link c).last ≡ Some answer → IsReplyWithin s answer
  link_within c answer = go (c == request.call)
    where
      go : (test : Bool) → (if test then link_made request failure (w.gateway.link request.call) end.results end.notes else w.gateway.link c).last ≡ Some answer
          → IsReplyWithin s answer
      go true is = subst (IsReplyWithin s) (the_some (reply_of request end failure) answer is) ends.beside_it.made
      go false is = contained.link c answer is

  -- ---- the worlds after it

  pub board_settled : IsSettled ends.merged.board (settled_by s settled m.gateway.board ends.merged.board)
  board_settled = merge_settled s w.gateway.board m.gateway.board end.board ends.merged.board settled contained.board along.board within_end
      ends.beside_it.part ends.beside_it.whole ends.others.board is_settled merge.contexts merge.ephemerals

  replies_within : (answer : Reply) → answer ≡ reply_of request end failure → (reply : Reply) → Contains (answer ∷ w.replies) reply → IsReplyWithin s reply
  replies_within answer answer_is reply there = elim (first_or_later answer w.replies reply there) [
    | inl new ↦ subst (IsReplyWithin s) (sym answer_is ∙ new) ends.beside_it.made
    | inr before ↦ contained.replies reply before
  ]

  pub answered : (answer : Reply) → answer ≡ reply_of request end failure → (sent : List SentNote)
      → Follows script s (answered_world w (after_request w.gateway request end settled failure) answer sent) m
      (λ after. after ≡ answered_world m (after_request m.gateway request ends.merged (settled_by s settled m.gateway.board ends.merged.board) failure) answer sent)
  answered answer answer_is sent = record {
    merged = answered_world m (after_request m.gateway request ends.merged merged_board failure) answer sent;
    happens = refl;
    contained = assumption (settled_within s end.board settled is_settled within_end, created_from, link_within, replies_within answer answer_is);
    along = assumption (
      settled_part s w.gateway.board m.gateway.board end.board ends.merged.board settled contained.board along.board within_end ends.beside_it.part
          ends.beside_it.whole ends.others.board is_settled merge.contexts merge.ephemerals,
      ends.beside_it.line,
      created_same,
      λ (c : ℕ) (its : s.numbers c ≡ true). ap (λ (x : CallLink). if c == request.call then x else m.gateway.link c) made_same
          ∙ ap (λ (x : CallLink). if c == request.call then link_made request failure (w.gateway.link request.call) end.results end.notes else x)
          (along.link c its),
      added_to_both (answer ∷ []) w.replies m.replies along.replies,
      added_to_both sent w.notes m.notes along.notes,
      created_own,
    );
    merge = assumption (
      settled_whole s w.gateway.board m.gateway.board end.board ends.merged.board settled contained.board along.board within_end ends.beside_it.part
          ends.beside_it.whole ends.others.board is_settled merge.contexts merge.ephemerals,
      board_settled,
      created_none,
    );
    others = assumption (
      settled_outside s w.gateway.board m.gateway.board end.board ends.merged.board settled contained.board along.board within_end
          ends.beside_it.part ends.beside_it.whole ends.others.board is_settled merge.contexts merge.ephemerals,
      ends.others.line,
      created_other,
      λ (c : ℕ) (other : s.numbers c ≡ false).
          at_another request.call c (link_made request failure (m.gateway.link request.call) ends.merged.results ends.merged.notes)
          (m.gateway.link c) (another_number s request.call c own other),
      Contains-append_right (answer ∷ []) m.replies,
      Contains-append_right sent m.notes,
    );
  }

  pub reply_same : reply_of request ends.merged failure ≡ reply_of request end failure
  reply_same = ap (λ (results : List Done). record { call = request.call; association = request.association; number = request.number; results = results; failure = failure })
      ends.beside_it.results

  pub notes_same : sent_notes request.call request.association (m.gateway.link request.call).notes ends.merged.notes
      ≡ sent_notes request.call request.association (w.gateway.link request.call).notes end.notes
  notes_same =
      ap (λ (link : CallLink). sent_notes request.call request.association link.notes ends.merged.notes) (along.link request.call own)
      ∙ ap (λ (notes : List RaisedNote). sent_notes request.call request.association (w.gateway.link request.call).notes notes) ends.beside_it.notes

-- ---- a request that arrives

-- the kept reply is sent once more
abbrev again : World → Reply → World
again w answer = record w { replies = answer ∷ w.replies }

module _ (script : Script) (s : Scope) (w m : World) (contained : IsContained script s w) (along : IsBeside s w m) (merge : IsMerge m)
    (left : HasIdentifiersLeft w) (request : Request) (there : Contains w.requests request) (own : s.numbers request.call ≡ true)
    (chosen : Option ChosenRefusal) (after : World) where
  at_start : RunsBeside s (start_of w.gateway) (start_of m.gateway)
  at_start = assumption (All-nil (IsDoneBy s))

  first_follows : IsFirst w request chosen after → Follows script s after m (IsFirst m request chosen)
  first_follows f =
      let x = f.executed in
      let ends = runs_too s request.number chosen x.end x.failure request.commands 0 (start_of w.gateway) (start_of m.gateway)
      (contained.requests request there) (record { contexts = left.contexts request there; ephemerals = left.ephemerals request there }) at_start x.runs in
      follows_so (f.after_is ∙ ap (λ (g : Gateway). answered_world w g f.answer f.sent) x.after_is) (λ merged is. record {
        gateway = after_request m.gateway request ends.merged (settled_by s x.settled m.gateway.board ends.merged.board) x.failure;
        answer = f.answer;
        sent = f.sent;
        executed = record {
          end = ends.merged;
          settled = settled_by s x.settled m.gateway.board ends.merged.board;
          failure = x.failure;
          is_fresh = offer_same s w m along request own ∙ x.is_fresh;
          room = subst (λ (link : CallLink). link.notes + length request.commands ≤ last_number) (sym (along.link request.call own)) x.room;
          runs = ends.runs;
          is_settled = board_settled script s w m contained along merge request own x.end x.settled x.failure chosen x.is_settled ends;
          after_is = refl;
          reply_is = x.reply_is ∙ sym (reply_same script s w m contained along merge request own x.end x.settled x.failure chosen x.is_settled ends);
          notes_are = x.notes_are ∙ sym (notes_same script s w m contained along merge request own x.end x.settled x.failure chosen x.is_settled ends);
        };
        after_is = is;
      }) (answered script s w m contained along merge request own x.end x.settled x.failure chosen x.is_settled ends f.answer x.reply_is f.sent)

  repeat_follows : IsRepeat w request after → Follows script s after m (IsRepeat m request)
  repeat_follows x = follows_so x.after_is (λ merged is. record { answer = x.answer; kept = offer_same s w m along request own ∙ x.kept; after_is = is }) it
    where
      replies_within : (reply : Reply) → Contains (x.answer ∷ w.replies) reply → IsReplyWithin s reply
      replies_within reply among = elim (first_or_later x.answer w.replies reply among) [
        | inl new ↦ subst (IsReplyWithin s) new (contained.link request.call x.answer (kept_at w.gateway request x.answer x.kept))
        | inr before ↦ contained.replies reply before
      ]

      it : Follows script s (again w x.answer) m (λ merged. merged ≡ again m x.answer)
      it = record {
        merged = again m x.answer;
        happens = refl;
        contained = assumption replies_within;
        along = assumption (added_to_both (x.answer ∷ []) w.replies m.replies along.replies);
        merge = assumption;
        others = assumption (same_outside s m.gateway.board, Contains-append_right (x.answer ∷ []) m.replies);
      }

  pub executes_follows : Executes w request chosen after → Follows script s after m (Executes m request chosen)
  executes_follows (inl f) = follows_so refl (λ merged is. inl is) (first_follows f)
  executes_follows (inr (inl x)) = follows_so refl (λ merged is. inr (inl is)) (repeat_follows x)
  executes_follows (inr (inr (dropped, same))) = record {
    merged = m;
    happens = inr (inr (offer_same s w m along request own ∙ dropped, refl));
    contained = subst (IsContained script s) (sym same) contained;
    along = subst (λ (v : World). IsBeside s v m) (sym same) along;
    merge = merge;
    others = leaves_itself s m;
  }
