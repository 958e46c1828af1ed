-- Collections of the parts of a heap: each is an event of every store that they stand for.
use Rattle.std.specs.Prelude.{ℕ, Bool, List}
use Rattle.text_model.specs.declared.line.Line.{Line}
use Rattle.store_model.specs.Store.{Store}
use Rattle.store_model.specs.Collections.{Block, always, is_step_due, Cycle, Collect, When, needs_block, exceeds_limit, MakesRoom}
use Rattle.parts_model.specs.Parts.{HeapParts}
use Rattle.collect_laws.specs.Events.{EventOf, Undergoes}

-- a minor collection, and a major step where the test says so of the store in between
abbrev pub Blocking : (Store → Bool) → EventOf
Blocking is_due setup store lines later = Block is_due setup.settings store lines later

-- blocks up to the end of a cycle
abbrev pub Cycling : EventOf
Cycling setup store lines later = Cycle setup.settings store lines later

-- a whole collection
abbrev pub Collecting : EventOf
Collecting setup store lines later = Collect setup.settings store lines later

-- an automatic block where the nursery has no room for so many words
abbrev pub BlockingFor : ℕ → EventOf
BlockingFor words setup store lines later = When (needs_block setup.settings store words) (Block is_step_due setup.settings) store lines later

-- a whole collection where so many words would exceed the limit
abbrev pub CollectingFor : ℕ → EventOf
CollectingFor words setup store lines later = When (exceeds_limit setup.settings store words) (Collect setup.settings) store lines later

-- all that comes before a birth of so many words
abbrev pub MakingRoom : ℕ → EventOf
MakingRoom words setup store lines later = MakesRoom setup.settings store words lines later

-- a block with its step
abbrev pub CollectsStep : HeapParts → HeapParts → List Line → List Line → Type 0
CollectsStep = Undergoes (Blocking always)

-- a block with a step where one is due
abbrev pub CollectsBlock : HeapParts → HeapParts → List Line → List Line → Type 0
CollectsBlock = Undergoes (Blocking is_step_due)

-- a cycle
abbrev pub CollectsCycle : HeapParts → HeapParts → List Line → List Line → Type 0
CollectsCycle = Undergoes Cycling

-- a whole collection
abbrev pub CollectsAll : HeapParts → HeapParts → List Line → List Line → Type 0
CollectsAll = Undergoes Collecting

-- a block where a birth of so many words needs one
abbrev pub MakesNurseryRoom : ℕ → HeapParts → HeapParts → List Line → List Line → Type 0
MakesNurseryRoom words = Undergoes (BlockingFor words)

-- a whole collection where a birth of so many words needs one
abbrev pub MakesLimitRoom : ℕ → HeapParts → HeapParts → List Line → List Line → Type 0
MakesLimitRoom words = Undergoes (CollectingFor words)

-- both, one after the other
abbrev pub MakesRoomFor : ℕ → HeapParts → HeapParts → List Line → List Line → Type 0
MakesRoomFor words = Undergoes (MakingRoom words)
