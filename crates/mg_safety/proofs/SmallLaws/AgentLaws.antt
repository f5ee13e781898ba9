-- What an agent sends is its call's.
use Rattle.mg_safety.proofs.Words.{◌≡◌, ℕ, List, Option, Some, Contains, Agent, Phase, replied, passed, timed, heard, noted, Script, sent_in, Request, Reply}
use Rattle.mg_safety.proofs.Words.{SentNote}
use Rattle.mg_safety.proofs.Messages.AgentNumbers.{GivesNext, replied_next, passed_next, timed_next, heard_next, noted_next}

-- each request that is outstanding in a phase is of the call
abbrev pub IsOwn : ℕ → Phase → Type 0
IsOwn call phase = (request : Request) → Contains (sent_in phase) request → request.call ≡ call

-- a step leaves the agent with a request of its call alone
abbrev pub GivesOwn : ℕ → Option Agent → Type 0
GivesOwn call o = (b : Agent) → o ≡ Some b → IsOwn call b.phase

-- a request with the call's next number is the call's
own : (a : Agent) (o : Option Agent) → GivesNext a.call a.next a.lines o → GivesOwn a.call o
own a o next b e request among = ((next b e).sent request among).0

pub replied_own : (script : Script) (a : Agent) (reply : Reply) → GivesOwn a.call (replied script a reply)
replied_own script a reply = own a (replied script a reply) (replied_next script a reply)

pub passed_own : (script : Script) (a : Agent) → GivesOwn a.call (passed script a)
passed_own script a = own a (passed script a) (passed_next script a)

pub timed_own : (script : Script) (a : Agent) → GivesOwn a.call (timed script a)
timed_own script a = own a (timed script a) (timed_next script a)

pub heard_own : (script : Script) (a : Agent) (association : ℕ) → GivesOwn a.call (heard script a association)
heard_own script a association = own a (heard script a association) (heard_next script a association)

pub noted_own : (script : Script) (a : Agent) (slots : List ℕ) (sent : SentNote) → GivesOwn a.call (noted script a slots sent)
noted_own script a slots sent = own a (noted script a slots sent) (noted_next script a slots sent)
