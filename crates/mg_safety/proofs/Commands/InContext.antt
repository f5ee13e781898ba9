-- A line that comes to stand in a context.
use Rattle.mg_safety.proofs.Words.{◌≡◌, ◌<◌, ℕ, true, false, length, Some, sym, ap, inl, unwrap_or, Live, TermId, Line, LineOptions, Termination, In, Board}
use Rattle.mg_safety.proofs.Words.{same_term, exists, with_at, Configuration, is_free, with_of, Script, IsSlot}
use Rattle.mg_model.specs.declared.commands.Termination.TheVariants as termination
use Rattle.mg_safety.proofs.InvariantWords.{Naming, term_of, cut_on, Shown, IsAccounted, Owner, owned_at, AreBuilt, line_settings}
use Rattle.mg_safety.proofs.Commands.Carrying.{Carries, IsEntered, carried}
use Rattle.mg_safety.proofs.Commands.OneRow.{HasOneRow}
use Rattle.mg_safety.proofs.Commands.Setting.{line_set, set_in_context}
use Rattle.mg_safety.proofs.Commands.InPlace.{row_with}

-- the line of the gateway by the names that commands are built with
pub line_named : (n m : Naming) (b : Board) (i : ℕ) → AreBuilt n m b → term_of n (termination.Line i) ≡ Some (Line (record { 0 = m.lines i }))
line_named n m b i built = ap (λ lines. Some (Line (record { 0 = lines i }))) (sym built.lines)

-- a line comes to stand in a context; before is the board before the command, b the one on which its context was given out
pub carried_line_in : (script : Script) (own : Owner) (n m : Naming) (before b after : Board) (c next : Configuration) (i j p : ℕ) (u : TermId)
    (o : LineOptions) → Shown script (owned_at own b) n b c → IsAccounted b → AreBuilt n m b → i < length script.lines
    → term_of n (termination.Line i) ≡ Some u → exists b u ≡ true → exists before u ≡ true
    → HasOneRow b after u (row_with b u p (line_settings o)) → HasOneRow before after u (row_with b u p (line_settings o))
    → ((x : ℕ) → after.used_ephemeral x ≡ b.used_ephemeral x)
    → ((v w : TermId) → same_term v u ≡ false → same_term w u ≡ false → after.cut v w ≡ before.cut v w)
    → ((v : TermId) → same_term v u ≡ false → owned_at own b v ≡ true → owned_at own before v ≡ true)
    → n.contexts j ≡ Some p → IsEntered own n m before b.used_context p
    → ((s : Termination) → next.spot s ≡ with_of c.spot (termination.Line i) (In j) s)
    → ((k : ℕ) → is_free (next.context k) ≡ is_free (c.context k))
    → ((s : Termination) → next.mode s ≡ with_of c.mode (termination.Line i) (unwrap_or o.mode (c.mode (termination.Line i))) s)
    → ((k : ℕ) → next.remote k ≡ c.remote k)
    → ((s v : Termination) → IsSlot script s → IsSlot script v → next.cut s v ≡ cut_on after (term_of n s) (term_of n v))
    → Carries script own n m before after next
carried_line_in script own n m before b after c next i j p u o shown accounted built slot named stood stood_before one first same cuts back bound
    entered spots free modes remotes cut =
    carried script own n m before b after c next (termination.Line i) u (row_with b u p (line_settings o)) shown accounted built slot named stood one
    (set_in_context script n after c next (termination.Line i) (row_with b u p (line_settings o)) j bound
    (line_set script (owned_at own b) n b after c next i p u o shown slot named modes remotes cut) spots free)
    same first (inl stood_before) cuts back (λ real. entered)

-- the configuration in which a name is live
abbrev pub with_live : Configuration → ℕ → Configuration
with_live c j = record c { context = with_at c.context j Live }
