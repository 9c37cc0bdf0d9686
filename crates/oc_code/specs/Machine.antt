-- What lowered code does, over any domain of hidden values.
use Rattle.std.specs.Prelude.{ℕ, zero, suc, ◌+◌, ◌-◌, ℤ, pos, nat_eq, ◌≡◌, List, [], ◌∷◌, length, Option, Some, None, slice_get, if◌then◌else◌, Bool, true, false}
use Rattle.oc_values.specs.declared.integers.IntKind.TheVariants.{Bool as KBool, I32}
use Rattle.oc_values.specs.Integers.{wrap}
use Rattle.oc_cells.specs.declared.types.CType.{CType, Struct}
use Rattle.oc_cells.specs.declared.types.SlotType.{SlotType}
use Rattle.oc_cells.specs.declared.types.StructType.{StructType}
use Rattle.oc_cells.specs.declared.memory.Address.{Address}
use Rattle.oc_cells.specs.declared.memory.Address.TheVariants.{Null, At}
use Rattle.oc_cells.specs.declared.trap.TrapKind.TheVariants.{M6}
use Rattle.oc_cells.specs.Types.{is_struct}
use Rattle.oc_cells.specs.Layout.{leaves}
use Rattle.oc_source.specs.declared.spot.Spot.{Spot}
use Rattle.oc_typed.specs.declared.typed.PrintPiece.{PrintPiece}
use Rattle.oc_typed.specs.declared.typed.PrintPiece.TheVariants.{Text, Decimal, Byte}
use Rattle.oc_walk.specs.declared.run.Value.TheVariants.{Int, Pointer, Hidden, Nothing}
use Rattle.oc_walk.specs.declared.run.Named.{Named}
use Rattle.oc_walk.specs.declared.run.Outcome.TheVariants.{Trap}
use Rattle.oc_walk.specs.Domain.{Domain}
use Rattle.oc_walk.specs.Walking.{Halt, Ended, Odd, Res, Go, Stop, bind, pure, odd, still, own, step, close, finish, ahead, Known, Run}
use Rattle.oc_walk.specs.Exchange.{count_of, formatted, word, reveals, gives, public_word, prints}
use Rattle.oc_walk.specs.Cells.{V, S, A, reads, puts, writes, follows, addressed, moves, same_places, starts_copy, copies_cell, opens, allocates, frees, typed_slot, slot}
use Rattle.oc_walk.specs.Operations.{tests, condition, unaries, operates, turns}
use Rattle.oc_walk.specs.Walk.{params, run_of, nowhere, start}
use Rattle.oc_code.specs.declared.code.Instr.{Instr}
use Rattle.oc_code.specs.declared.code.Instr.TheVariants.{Push, Null as PushNull, Var, FieldAt, Move, Check, Load, Store, Init, Copy, Op, One, Same, Turn, Dup, Swap, Discard, Jump, JumpZero, Step, Enter, Leave, Invoke, Back, BackValue, When, Otherwise, EndWhen, Always, EndAlways, Feed, Reveal, Give, Count, PublicCount, PublicWord, Make, Free, Print}
use Rattle.oc_code.specs.declared.code.Line.{Line}
use Rattle.oc_code.specs.declared.code.CodeFunction.{CodeFunction}

-- how many arguments a format takes
abbrev pub asked : List PrintPiece → ℕ
asked [] = 0
asked (Text bytes ∷ ps) = asked ps
asked (Decimal k ∷ ps) = suc (asked ps)
asked (Byte ∷ ps) = suc (asked ps)

-- what stays as it is in a run of code
pub record Setup : Type 0 where
  pub run : Run
  pub functions : List CodeFunction

module _ (D : Domain) where
  -- what an open part has put aside: the outer enable, and for an `obliv if` the condition and the first part's enable
  pub data Aside : Type 0 where
    Apart : D.Enable → D.Hidden → D.Enable → Aside
    Lifted : D.Enable → Aside

  -- what a call goes on with when the call that it made returns
  pub record Caller : Type 0 where
    pub code : List Line
    pub slots : List SlotType
    pub enable : D.Enable
    pub aside : List Aside
    pub room : ℕ
    pub place : ℕ
    pub stack : List (V D)
    pub entered : List Named

  -- what stays as it is while a call evaluates an expression
  pub record Here : Type 0 where
    pub code : List Line
    pub slots : List SlotType
    pub enable : D.Enable
    pub aside : List Aside
    pub room : ℕ
    pub callers : List Caller

  -- what is left of an instruction that takes several beats: in a copy, this cell next, and then those of these leaves
  pub data Task : Type 0 where
    Idle : Task
    Copying : Spot → D.Enable → CType → List CType → Address → Address → Task

  -- where a run of code stands
  pub record Conf : Type 0 where
    pub here : Here
    pub place : ℕ
    pub stack : List (V D)
    pub task : Task
    pub state : S D

  -- at a place of a call, with these values and no task
  abbrev pub at : Here → ℕ → List (V D) → S D → Conf
  at h pc vs s = record { here = h; place = pc; stack = vs; task = Idle; state = s }

  -- amid a copy of cells of these leaves
  abbrev pub task_of : Spot → D.Enable → List CType → Address → Address → Task
  task_of p e [] to from = Idle
  task_of p e (l ∷ ls) to from = Copying p e l ls to from

  -- what one instruction comes to
  pub data Out : Type 0 where
    On : Conf → Out
    Halted : Halt → S D → Out
    Over : V D → S D → Out

  -- the newest value, and the others
  abbrev pub with_one : {T : Type 0} → Spot → List (V D) → (V D → List (V D) → A D T) → A D T
  with_one p [] k = odd p
  with_one p (v ∷ vs) k = k v vs

  -- the two newest values, the older one first, and the others
  abbrev pub with_two : {T : Type 0} → Spot → List (V D) → (V D → V D → List (V D) → A D T) → A D T
  with_two p [] k = odd p
  with_two p (y ∷ []) k = odd p
  with_two p (y ∷ x ∷ vs) k = k x y vs

  -- the n newest values, the newest last, and the others
  abbrev pub popped : ℕ → List (V D) → List (V D) → Option (List (V D) × List (V D))
  popped zero us args = Some (args, us)
  popped (suc n) [] args = None
  popped (suc n) (v ∷ us) args = popped n us (v ∷ args)

  -- the arguments that were popped, and the others, where there were enough
  abbrev pub with_all : {T : Type 0} → Spot → Option (List (V D) × List (V D)) → (List (V D) → List (V D) → A D T) → A D T
  with_all p (Some r) k = k r.0 r.1
  with_all p None k = odd p

  -- a value on the stack
  abbrev pub puts_value : List (V D) → A D (V D) → A D (List (V D))
  puts_value vs m = bind m (λ v. pure (v ∷ vs))

  -- an address on the stack
  abbrev pub puts_address : List (V D) → A D Address → A D (List (V D))
  puts_address vs m = bind m (λ a. pure (Pointer a ∷ vs))

  -- ends the newest block, which is this slot's
  abbrev pub leaves_newest : Spot → ℕ → List Named → A D (Unit {0})
  leaves_newest p n [] s = Stop (Odd p) s
  leaves_newest p n (e ∷ es) s = if nat_eq e.slot n then Go tt (close 1 s) else Stop (Odd p) s

  -- the newest block of the call ends, which is to be that of this slot
  abbrev pub leaving : Spot → ℕ → A D (Unit {0})
  leaving p n s = leaves_newest p n s.entered s

  -- a slot's variable
  abbrev pub enters : Spot → List (List CType) → List SlotType → ℕ → A D (Unit {0})
  enters p lss slots n = typed_slot D p (slice_get slots n) (λ t. bind (opens D p lss t.ty n) (λ _. pure tt))

  -- a slot's variable that holds what is enabled
  abbrev pub marks : Spot → List (List CType) → List SlotType → ℕ → D.Enable → A D (Unit {0})
  marks p lss slots n e =
      typed_slot D p (slice_get slots n) (λ t.
      bind (opens D p lss t.ty n) (λ b. bind (still (puts D p t.ty (At b 0) (Hidden KBool (D.held e)))) (λ _. pure tt)))

  -- what an instruction does to the stack, where it goes on with the next one
  abbrev pub effect : Run → List SlotType → Spot → D.Enable → Instr → List (V D) → A D (List (V D))
  effect r ss p e (Push k n) vs = pure (Int k n ∷ vs)
  effect r ss p e PushNull vs = pure (Pointer Null ∷ vs)
  effect r ss p e (Var n) vs = puts_address vs (slot D p n)
  effect r ss p e (FieldAt n) vs = with_one p vs (λ v us. bind (still (addressed D p v)) (λ a. pure (Pointer (ahead n a) ∷ us)))
  effect r ss p e (Move size back) vs = with_two p vs (λ v n us. puts_address us (still (moves D p size back v n)))
  effect r ss p e Check vs = with_one p vs (λ v us. puts_address us (still (follows D p v)))
  effect r ss p e (Load ty) vs = with_one p vs (λ v us. bind (still (addressed D p v)) (λ a. puts_value us (still (reads D p ty a))))
  effect r ss p e (Store ty) vs =
      with_two p vs (λ a v us. bind (still (addressed D p a)) (λ b. puts_value us (still (writes D p e ty b v))))
  effect r ss p e (Init ty) vs =
      with_two p vs (λ a v us. bind (still (addressed D p a)) (λ b. bind (still (puts D p ty b v)) (λ _. pure us)))
  effect r ss p e (Op op k hidden) vs = with_two p vs (λ v z us. puts_value us (still (operates D p op k hidden v z)))
  effect r ss p e (One op k hidden) vs = with_one p vs (λ v us. puts_value us (still (unaries D p op k hidden v)))
  effect r ss p e (Same negated) vs = with_two p vs (λ v z us. puts_value us (still (same_places D p negated v z)))
  effect r ss p e (Turn from to lift) vs = with_one p vs (λ v us. puts_value us (still (turns D p from to lift v)))
  effect r ss p e Dup vs = with_one p vs (λ v us. pure (v ∷ v ∷ us))
  effect r ss p e Swap vs = with_two p vs (λ v z us. pure (v ∷ z ∷ us))
  effect r ss p e Discard vs = with_one p vs (λ v us. pure us)
  effect r ss p e Step vs = bind step (λ _. pure vs)
  effect r ss p e (Enter n) vs = bind (enters p r.structs ss n) (λ _. pure vs)
  effect r ss p e (Leave n) vs = bind (leaving p n) (λ _. pure vs)
  effect r ss p e (Feed k party) vs = with_one p vs (λ v us. puts_value us (still (word D r.known p party k v)))
  effect r ss p e (Reveal k) vs = with_one p vs (λ v us. puts_value us (still (reveals D p k v)))
  effect r ss p e (Give k party) vs = with_one p vs (λ v us. puts_value us (still (gives D p k party v)))
  effect r ss p e (Count party) vs = pure (Int I32 (wrap I32 (pos (count_of r.known party))) ∷ vs)
  effect r ss p e PublicCount vs = pure (Int I32 (wrap I32 (pos (length r.known.public))) ∷ vs)
  effect r ss p e PublicWord vs = with_one p vs (λ v us. puts_value us (still (public_word D r.known p v)))
  effect r ss p e (Make ty) vs = with_one p vs (λ v us. puts_value us (still (allocates D p r.structs ty v)))
  effect r ss p e Free vs = with_one p vs (λ v us. puts_value us (still (frees D p v)))
  effect r ss p e (Print ps) vs = with_all p (popped (asked ps) vs []) (λ args us. puts_value us (still (prints D p (formatted ps args))))
  effect r ss p e i vs = odd p

  -- on at a place with what an action makes of the stack, or halted
  abbrev pub carried : Here → ℕ → Res (S D) (List (V D)) → Out
  carried h pc (Go vs t) = On (at h pc vs t)
  carried h pc (Stop w t) = Halted w t

  -- the start of a copy
  abbrev pub begun : Here → ℕ → List (V D) → (Address → Task) → Res (S D) Address → Out
  begun h pc vs k (Go b t) = On (record { here = h; place = pc; stack = vs; task = k b; state = t })
  begun h pc vs k (Stop w t) = Halted w t

  -- a copy to the address that was found, from where the value leads
  abbrev pub copies_to : Spot → D.Enable → List CType → Here → ℕ → (Address → List (V D)) → V D → Res (S D) Address → Out
  copies_to p e ls h pc keep v (Go a t) = begun h pc (keep a) (λ b. task_of p e ls a b) (still (starts_copy D p ls a v) t)
  copies_to p e ls h pc keep v (Stop w t) = Halted w t

  -- a copy, after which the stack is what keep makes of the address and the other values
  abbrev pub copies_two : Spot → D.Enable → List CType → Here → ℕ → (Address → List (V D) → List (V D)) → List (V D) → S D → Out
  copies_two p e ls h pc keep [] s = Halted (Odd p) s
  copies_two p e ls h pc keep (v ∷ []) s = Halted (Odd p) s
  copies_two p e ls h pc keep (v ∷ a ∷ us) s = copies_to p e ls h pc (λ b. keep b us) v (still (addressed D p a) s)

  -- an initialiser, of a struct or of a cell: neither looks at the enable
  abbrev pub inits : Bool → Run → Spot → CType → Here → ℕ → List (V D) → S D → Out
  inits true r p ty h pc vs s = copies_two p D.always (leaves r.structs ty) h pc (λ a us. us) vs s
  inits false r p ty h pc vs s = carried h pc (effect r h.slots p h.enable (Init ty) vs s)

  -- on where the test holds, and else to n
  abbrev pub jumped : Here → ℕ → ℕ → List (V D) → Res (S D) Bool → Out
  jumped h n pc vs (Go true t) = On (at h pc vs t)
  jumped h n pc vs (Go false t) = On (at h n vs t)
  jumped h n pc vs (Stop w t) = Halted w t

  -- on where the newest value holds, and else to n
  abbrev pub jumps : Spot → Here → ℕ → ℕ → List (V D) → S D → Out
  jumps p h n pc [] s = Halted (Odd p) s
  jumps p h n pc (v ∷ vs) s = jumped h n pc vs (still (tests D p v) s)

  -- the call of a function, of which it returns to a caller
  abbrev pub opened : List Line → List SlotType → D.Enable → ℕ → List Caller → Res (S D) (Unit {0}) → Out
  opened code slots e room callers (Go _ t) =
      On (at (record { code = code; slots = slots; enable = e; aside = []; room = room; callers = callers }) 0 [] t)
  opened code slots e room callers (Stop w t) = Halted w t

  -- what a call goes on with at a place, with these values and its entered slots
  abbrev pub caller_of : Here → ℕ → List (V D) → List Named → Caller
  caller_of h pc us es =
      record { code = h.code; slots = h.slots; enable = h.enable; aside = h.aside; room = h.room; place = pc; stack = us; entered = es }

  -- a call of a function that is there, in so much room, with these arguments
  abbrev pub called_with : Run → Spot → Option CodeFunction → ℕ → Here → ℕ → List (V D) → List (V D) → S D → Out
  called_with r p None room h pc args us s = Halted (Odd p) s
  called_with r p (Some f) room h pc args us s =
      opened f.code f.slots h.enable room (caller_of h pc us s.entered ∷ h.callers)
      (params D p r.structs f.slots 0 args (record s { entered = [] }))

  -- where the reach allows it
  abbrev pub reached : Setup → Spot → ℕ → ℕ → Here → ℕ → List (V D) → List (V D) → S D → Out
  reached g p f zero h pc args us s = Halted (Ended (Trap M6 p)) s
  reached g p f (suc room) h pc args us s = called_with g.run p (slice_get g.functions f) room h pc args us s

  -- a call of reach r, where there were enough arguments
  abbrev pub invoked : Setup → Spot → ℕ → ℕ → Here → ℕ → Option (List (V D) × List (V D)) → S D → Out
  invoked g p f r h pc None s = Halted (Odd p) s
  invoked g p f r h pc (Some args) s = reached g p f (h.room + 1 - r) h pc args.0 args.1 s

  -- where a call stands again when one that it made returned
  abbrev pub here_of : Caller → List Caller → Here
  here_of c cs = record { code = c.code; slots = c.slots; enable = c.enable; aside = c.aside; room = c.room; callers = cs }

  -- where a call returns to
  abbrev pub landed : Caller → List Caller → V D → S D → Conf
  landed c cs v s = at (here_of c cs) c.place (v ∷ c.stack) (finish c.entered s)

  -- a call returns with this value
  abbrev pub goes_back : Spot → List Caller → V D → S D → Out
  goes_back p [] v s = Halted (Odd p) s
  goes_back p (c ∷ cs) v s = On (landed c cs v s)

  -- a call returns with its newest value
  abbrev pub goes_back_with : Spot → List Caller → List (V D) → S D → Out
  goes_back_with p cs [] s = Halted (Odd p) s
  goes_back_with p cs (v ∷ vs) s = goes_back p cs v s

  -- a call under another enable, with these put aside
  abbrev pub within : Here → D.Enable → List Aside → Here
  within h e rest = record h { enable = e; aside = rest }

  -- the first part of an `obliv if` begins under this enable
  abbrev pub first_of : Here → ℕ → List (V D) → D.Hidden → Res (S D) D.Enable → Out
  first_of h pc us c (Go e t) = On (at (within h e (Apart h.enable c e ∷ h.aside)) pc us t)
  first_of h pc us c (Stop w t) = Halted w t

  -- the condition of an `obliv if` is known as a hidden truth
  abbrev pub when_of : Here → ℕ → List (V D) → Res (S D) D.Hidden → Out
  when_of h pc us (Go c t) = first_of h pc us c (still (own (D.first h.enable c)) t)
  when_of h pc us (Stop w t) = Halted w t

  -- an `obliv if` begins with the newest value as its condition
  abbrev pub whens : Spot → Here → ℕ → List (V D) → S D → Out
  whens p h pc [] s = Halted (Odd p) s
  whens p h pc (v ∷ us) s = when_of h pc us (still (condition D p v) s)

  -- the second part of an `obliv if` begins under this enable
  abbrev pub second_of : Here → ℕ → List (V D) → D.Enable → D.Hidden → D.Enable → List Aside → Res (S D) D.Enable → Out
  second_of h pc vs o c e rest (Go d t) = On (at (within h d (Apart o c e ∷ rest)) pc vs t)
  second_of h pc vs o c e rest (Stop w t) = Halted w t

  -- the first part of an `obliv if` ends, and the second begins
  abbrev pub otherwise : Spot → Here → ℕ → List (V D) → List Aside → S D → Out
  otherwise p h pc vs [] s = Halted (Odd p) s
  otherwise p h pc vs (Lifted e ∷ rest) s = Halted (Odd p) s
  otherwise p h pc vs (Apart o c e ∷ rest) s = second_of h pc vs o c e rest (still (own (D.second o c e)) s)

  -- the second part of an `obliv if` ends
  abbrev pub ends_when : Spot → Here → ℕ → List (V D) → List Aside → S D → Out
  ends_when p h pc vs [] s = Halted (Odd p) s
  ends_when p h pc vs (Lifted e ∷ rest) s = Halted (Odd p) s
  ends_when p h pc vs (Apart o c e ∷ rest) s = On (at (within h o rest) pc vs s)

  -- a `~obliv` block begins
  abbrev pub always_on : Here → ℕ → List (V D) → Res (S D) (Unit {0}) → Out
  always_on h pc vs (Go _ t) = On (at (within h D.always (Lifted h.enable ∷ h.aside)) pc vs t)
  always_on h pc vs (Stop w t) = Halted w t

  -- a `~obliv` block ends, and its name with it
  abbrev pub ends_always : Spot → Here → ℕ → List (V D) → List Aside → S D → Out
  ends_always p h pc vs [] s = Halted (Odd p) s
  ends_always p h pc vs (Lifted e ∷ rest) s = On (at (within h e rest) pc vs (close 1 s))
  ends_always p h pc vs (Apart o c e ∷ rest) s = Halted (Odd p) s

  -- one instruction
  abbrev pub obey : Setup → Spot → Instr → Here → ℕ → List (V D) → S D → Out
  obey g p (Jump n) h pc vs s = On (at h n vs s)
  obey g p (JumpZero n) h pc vs s = jumps p h n (pc + 1) vs s
  obey g p (Invoke f n r) h pc vs s = invoked g p f r h (pc + 1) (popped n vs []) s
  obey g p Back h pc vs s = goes_back p h.callers Nothing s
  obey g p BackValue h pc vs s = goes_back_with p h.callers vs s
  obey g p When h pc vs s = whens p h (pc + 1) vs s
  obey g p Otherwise h pc vs s = otherwise p h (pc + 1) vs h.aside s
  obey g p EndWhen h pc vs s = ends_when p h (pc + 1) vs h.aside s
  obey g p (Always n) h pc vs s = always_on h (pc + 1) vs (marks p g.run.structs h.slots n h.enable s)
  obey g p (Copy n) h pc vs s = copies_two p h.enable (leaves g.run.structs (Struct n)) h (pc + 1) (λ a us. Pointer a ∷ us) vs s
  obey g p (Init ty) h pc vs s = inits (is_struct ty) g.run p ty h (pc + 1) vs s
  obey g p EndAlways h pc vs s = ends_always p h (pc + 1) vs h.aside s
  obey g p i h pc vs s = carried h (pc + 1) (effect g.run h.slots p h.enable i vs s)

  -- the run is over, with the newest value
  abbrev pub over : List (V D) → S D → Out
  over [] s = Halted (Odd nowhere) s
  over (v ∷ vs) s = Over v s

  -- the instruction that stands here, or the end where there is none
  abbrev pub follow : Setup → Option Line → Here → ℕ → List (V D) → S D → Out
  follow g None h pc vs s = over vs s
  follow g (Some l) h pc vs s = obey g l.spot l.instr h pc vs s

  -- after one cell of a copy
  abbrev pub went_on : Here → ℕ → List (V D) → Task → Res (S D) (V D) → Out
  went_on h pc vs k (Go v t) = On (record { here = h; place = pc; stack = vs; task = k; state = t })
  went_on h pc vs k (Stop w t) = Halted w t

  -- one beat: the next cell of a copy, or the next instruction
  abbrev pub goes_on : Setup → Task → Here → ℕ → List (V D) → S D → Out
  goes_on g Idle h pc vs s = follow g (slice_get h.code pc) h pc vs s
  goes_on g (Copying p e l ls to from) h pc vs s =
      went_on h pc vs (task_of p e ls (ahead 1 to) (ahead 1 from)) (still (copies_cell D p e l to from) s)

  -- one beat
  abbrev pub next : Setup → Conf → Out
  next g c = goes_on g c.task c.here c.place c.stack c.state

  -- a run, where a count has run out, or it has stopped or ended
  pub data End : Type 0 where
    Unfinished : End
    Finished : Res (S D) (V D) → End

  -- what follows a beat that leaves the run going on
  abbrev pub and_then : Out → (Conf → End) → End
  and_then (On c) k = k c
  and_then (Halted w t) k = Finished (Stop w t)
  and_then (Over v t) k = Finished (Go v t)

  -- at most n instructions
  abbrev pub exec : Setup → ℕ → Conf → End
  exec g zero c = Unfinished
  exec g (suc n) c = and_then (next g c) (exec g n)

  -- where a program's run starts: the call of its entry, at no node
  abbrev pub entry_at : ℕ → S D → Conf
  entry_at f s =
      at (record {
        code = record { spot = nowhere; instr = Invoke f 0 1 } ∷ [];
        slots = [];
        enable = D.always;
        aside = [];
        room = 1001;
        callers = [];
      }) 0 [] s

  -- a run of the code, from the function that it starts with, ends so
  pub record Gives (g : Setup) (f : ℕ) (s : S D) (r : Res (S D) (V D)) : Type 0 where
    pub count : ℕ
    pub ends : exec g count (entry_at f s) ≡ Finished r

-- what stays as it is in a run of a program's code
abbrev pub setup_of : List StructType → List CodeFunction → Known → ℕ → Setup
setup_of structs fs known budget = record { run = run_of structs known budget; functions = fs }

-- a run of a program's code ends so
abbrev pub EndsSo : (D : Domain) → List StructType → List CodeFunction → ℕ → Known → ℕ → List ℤ → ℕ → D.Own → Res (S D) (V D) → Type 0
EndsSo D structs fs entry known dealt answers budget o r =
    Gives D (setup_of structs fs known budget) entry (start D dealt answers budget o) r
