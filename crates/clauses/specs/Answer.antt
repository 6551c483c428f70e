-- Error values, the numbers of the timers, the four sorts of answer that the clause tables of the phones are written with, and what a line of them gives.
use Rattle.std.specs.Prelude.{cond, ℕ, eqb, Option, Some, None, Result, Ok, Err}
use Rattle.clauses.specs.declared.ErrorValue.{ErrorValue}
use Rattle.clauses.specs.declared.Failure.{Failure}
use Rattle.clauses.specs.declared.Failure.TheVariants.{ReturnError, Reject}
use Rattle.clauses.specs.declared.Timer.{Timer}
use Rattle.clauses.specs.declared.Timer.TheVariants.{T1, T2, T10}
use Rattle.clauses.specs.declared.Message.{Message}
use Rattle.clauses.specs.declared.Report.{Report}
use Rattle.clauses.specs.declared.Answer.{Answer}
use Rattle.clauses.specs.declared.NoStep.{NoStep}
use Rattle.clauses.specs.declared.Step.{Step}

-- clause 11: callAlreadyPickedUp has the code 2001
abbrev pub call_already_picked_up : ErrorValue
call_already_picked_up = record { 0 = 2001 }

-- clause 11: undefined has the code 2002
abbrev pub undefined : ErrorValue
undefined = record { 0 = 2002 }

-- document 01, "Errors (house numbers): 0 none, 1 undefined, 2 callAlreadyPickedUp". Every other number is no error, as 0 is.
abbrev pub wire_error : ℕ → Option ErrorValue
wire_error number = cond (eqb number 1) (Some undefined) (cond (eqb number 2) (Some call_already_picked_up) None)

-- the value of a Return Error is the one that came; house: a Reject, which has none, has undefined
abbrev pub value_of : Failure → ErrorValue
value_of (ReturnError x) = x
value_of Reject = undefined

-- the number of a timer in clause 10.4
abbrev pub timer_number : Timer → ℕ
timer_number T1 = 1
timer_number T2 = 2
timer_number T10 = 10

-- something is begun: a message and maybe a second one, and the timer that starts
abbrev pub begun : Message → Option Message → Timer → Answer
begun first second timer = record { first = Some first; second = second; report = None; started = Some timer; stopped = None }

-- a message, or none
abbrev pub replied : Option Message → Answer
replied first = record { first = first; second = None; report = None; started = None; stopped = None }

-- a word to the user
abbrev pub told : Report → Answer
told report = record { first = None; second = None; report = Some report; started = None; stopped = None }

-- what was begun is over: a message or none, what the user is told if anything, and the timer that stops
abbrev pub ended : Option Message → Option Report → Timer → Answer
ended first report timer = record { first = first; second = None; report = report; started = None; stopped = Some timer }

-- the state after the event, and the answer
abbrev pub to : {S : Type 0} → S → Answer → Step S
to s a = record { state = s; answer = Ok a }

-- the refusal
abbrev pub refusal : NoStep
refusal = record {}

-- document 02, Q-7, "33 the clause names no step for that event in that state"
abbrev pub no_step_number : ℕ
no_step_number = 33

-- the number of an answer: 0 where the event is done
abbrev pub answer_number : Result Answer NoStep → ℕ
answer_number (Ok a) = 0
answer_number (Err e) = no_step_number

-- there the state stays, and there is no answer: nothing is sent, started, stopped or told
abbrev pub no_step : {S : Type 0} → S → Step S
no_step s = record { state = s; answer = Err refusal }
