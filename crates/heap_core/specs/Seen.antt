-- What a contract sees of a heap.
use Rattle.heap_core.specs.declared.heap.State.{State}
use Rattle.heap_core.specs.declared.heap.State.TheVariants.{Closed, Started, Spent}
use Rattle.heap_core.specs.Heap.{HeapSeen, closed_heap, spent_heap, heap_of}

abbrev pub seen : State → HeapSeen
seen Closed = closed_heap
seen (Started parts) = heap_of parts
seen Spent = spent_heap
