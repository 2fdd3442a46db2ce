-- Lines of words, each cut at its spaces, with the jobs and the benches that they call for.
use Rattle.std.specs.Prelude.{ℕ, true, false, ◌==◌, List, [], ◌∷◌, ◌++◌, map, Option, Some, None, codes}
use Rattle.std.specs.List.{slice_split}
use Rattle.vs_job.specs.declared.bench.Bench.{Bench}
use Rattle.vs_job.specs.declared.job.Job.{Job}
use Rattle.vs_job.specs.declared.job.Mode.TheVariants.{Run, Check, Queue}
use Rattle.vs_job.specs.Job.{Text}

abbrev pub words : Text → List Text
words line = slice_split (λ b. b == 32) line

-- a line, and its job or its bench
pub record Row : Type 0 where
  pub line : Text
  pub job : Option Job
  pub bench : Option Bench

abbrev of_job : Text → Job → Row
of_job line job = record { line = line; job = Some job; bench = None }

abbrev of_bench : Text → ℕ → ℕ → Row
of_bench line vectors lanes = record { line = line; job = None; bench = Some (record { vectors = vectors; lanes = lanes }) }

abbrev of_none : Text → Row
of_none line = record { line = line; job = None; bench = None }

-- the job of top t, clock c and design d
abbrev a_job : ℕ → List Text → Job
a_job half stimuli = record { mode = Run; top = Some (codes "t"); clocks = codes "c" ∷ []; half = half; share = false; head = []; design = codes "d"; others = []; stimuli = stimuli }

-- the same with macros, and one stimulus
abbrev defined : Text → Job
defined head = record (a_job 5 (codes "s" ∷ [])) { head = head }

-- the same with further files of the design, and one stimulus
abbrev joined : List Text → Job
joined others = record (a_job 5 (codes "s" ∷ [])) { others = others }

-- the same job without a clock, and one stimulus
abbrev clockless : Job
clockless = record (a_job 5 (codes "s" ∷ [])) { clocks = [] }

-- the same job with clocks of these names, and one stimulus
abbrev clocked : List Text → Job
clocked clocks = record (a_job 5 (codes "s" ∷ [])) { clocks = clocks }

-- the same job, whose top isn't named
abbrev topless : Job → Job
topless j = record j { top = None }

-- the same job, to be checked
abbrev checked : Job → Job
checked j = record j { mode = Check }

-- the same job, with one code for each class of signals that ports join
abbrev shared : Job → Job
shared j = record j { share = true }

-- the same job, which the event queue runs in the order of this number
abbrev queued : ℕ → Job → Job
queued order j = record j { mode = Queue order }

-- options in any order, among the paths too, with their values as words of their own or behind `=`
abbrev jobs : List Row
jobs =
    of_job (codes "x run --top t --clock c d s") (a_job 5 (codes "s" ∷ []))
    ∷ of_job (codes "x run d --clock=c s --half 9 --top=t u") (a_job 9 (codes "s" ∷ codes "u" ∷ []))
    ∷ of_job (codes "x run --top=t --half=1000000 --clock c -- d -s -- --top=u") (a_job 1000000 (codes "-s" ∷ codes "--" ∷ codes "--top=u" ∷ []))
    ∷ of_job (codes "x run --top t=u= --clock= d s") (record { mode = Run; top = Some (codes "t=u="); clocks = [] ∷ []; half = 5; share = false; head = []; design = codes "d"; others = []; stimuli = codes "s" ∷ [] })
    ∷ of_job (codes "x run --top=t=u --clock  d ") (record { mode = Run; top = Some (codes "t=u"); clocks = [] ∷ []; half = 5; share = false; head = []; design = codes "d"; others = []; stimuli = [] ∷ [] })
    ∷ of_job (codes "x run --define A --top t --clock c d s") (defined (codes "`define A\n"))
    ∷ of_job (codes "x run --top t --clock c d s --define=W=4 --define _w$2=a=b//`A") (defined (codes "`define W 4\n`define _w$2 a=b//`A\n"))
    ∷ of_job (codes "x run --define=W=1 --top t --define Z9= d --clock c --define W s") (defined (codes "`define W 1\n`define Z9 \n`define W\n"))
    ∷ of_job (codes "x run --share --top t --clock c d s") (shared (a_job 5 (codes "s" ∷ [])))
    ∷ of_job (codes "x run --top t d --half=9 --share s --clock c") (shared (a_job 9 (codes "s" ∷ [])))
    ∷ of_job (codes "x run --top t --clock c d --share -- --share s") (shared (a_job 5 (codes "--share" ∷ codes "s" ∷ [])))
    ∷ of_job (codes "x run --with e --top t --clock c d s") (joined (codes "e" ∷ []))
    ∷ of_job (codes "x run --top t --with=f --clock c d --with e s --with f") (joined (codes "f" ∷ codes "e" ∷ codes "f" ∷ []))
    ∷ of_job (codes "x check d --with= --top t --clock c s --with e=g") (checked (joined ([] ∷ codes "e=g" ∷ [])))
    ∷ of_job (codes "x queue --with e --order 7 --top t --clock c -- d --with") (queued 7 (record (a_job 5 (codes "--with" ∷ [])) { others = codes "e" ∷ [] }))
    ∷ of_job (codes "x check --top t --clock c d s") (checked (a_job 5 (codes "s" ∷ [])))
    ∷ of_job (codes "x run --top t d s") clockless
    ∷ of_job (codes "x check d s --half 5 --top=t") (checked clockless)
    ∷ of_job (codes "x run --top t --clock c,e d s") (clocked (codes "c" ∷ codes "e" ∷ []))
    ∷ of_job (codes "x check --top t d --clock=e,c,e s") (checked (clocked (codes "e" ∷ codes "c" ∷ codes "e" ∷ [])))
    ∷ of_job (codes "x run --top t --clock ,c=e, d s") (clocked ([] ∷ codes "c=e" ∷ [] ∷ []))
    ∷ of_job (codes "x run --clock c d s") (topless (a_job 5 (codes "s" ∷ [])))
    ∷ of_job (codes "x run d s") (topless clockless)
    ∷ of_job (codes "x check d s") (topless (checked clockless))
    ∷ of_job (codes "x run -- --top=t d s") (record (topless clockless) { design = codes "--top=t"; stimuli = codes "d" ∷ codes "s" ∷ [] })
    ∷ of_job (codes "x queue --order 7 --clock c d s") (topless (queued 7 (a_job 5 (codes "s" ∷ []))))
    ∷ of_job (codes "x check d --clock=c run --half 9 --define A --top=t check") (checked (record (a_job 9 (codes "run" ∷ codes "check" ∷ [])) { head = codes "`define A\n" }))
    ∷ of_job (codes "x run --top t --clock c d queue") (a_job 5 (codes "queue" ∷ []))
    ∷ of_job (codes "x queue --order 7 --top t --clock c d s") (queued 7 (a_job 5 (codes "s" ∷ [])))
    ∷ of_job (codes "x queue --top t --clock=c d s --half 9 --order=0") (queued 0 (a_job 9 (codes "s" ∷ [])))
    ∷ of_job (codes "x queue --top t d --order 18446744073709551615 s") (queued 18446744073709551615 clockless)
    ∷ of_job (codes "x queue --top t --define A --clock c --order=10 -- d --order") (queued 10 (record (a_job 5 (codes "--order" ∷ [])) { head = codes "`define A\n" }))
    ∷ []

-- vectors for each lane, and the lanes, 64 where they aren't given
abbrev benches : List Row
benches =
    of_bench (codes "x bench 1") 1 64
    ∷ of_bench (codes "x bench 1000") 1000 64
    ∷ of_bench (codes "x bench 1 256") 1 256
    ∷ of_bench (codes "x bench 3 1") 3 1
    ∷ []

-- each breaks one rule
abbrev broken : List Text
broken =
    []
    ∷ codes "x"
    ∷ codes "x run"
    ∷ codes "x run --help"
    ∷ codes "x --version"
    ∷ codes "x check"
    ∷ codes "x check --top t --clock c d"
    ∷ codes "x checks --top t --clock c d s"
    ∷ codes "x Check --top t --clock c d s"
    ∷ codes "x --top t check --clock c d s"
    ∷ codes "x bench --top t --clock c d s"
    ∷ codes "x --top t run --clock c d s"
    ∷ codes "x run --top t --clock c --clock c d s"
    ∷ codes "x run --top t --clock c --clock= d s"
    ∷ codes "x run --top t --clock c d"
    ∷ codes "x run --top t --clock c --clock e d s"
    ∷ codes "x run --top t --clock -c,e d s"
    ∷ codes "x run --top t --clock c --top t d s"
    ∷ codes "x run --top t --clock c --half 9 --half=9 d s"
    ∷ codes "x run --top t d s --clock"
    ∷ codes "x run --top t --clock -c d s"
    ∷ codes "x run --top t --clock=-c d s"
    ∷ codes "x run --top t --clock -- c d s"
    ∷ codes "x run --top t --clock c d -s"
    ∷ codes "x run --top t --clock c d -"
    ∷ codes "x run --top t --clock c -h d s"
    ∷ codes "x run --to t --clock c d s"
    ∷ codes "x run --top t --clock c --half 0 d s"
    ∷ codes "x run --top t --clock c --half=05 d s"
    ∷ codes "x run --top t --clock c --half=+5 d s"
    ∷ codes "x run --top t --clock c --half= d s"
    ∷ codes "x run --top t --clock c --half 1000001 d s"
    ∷ codes "x run --top t --clock c d s --define"
    ∷ codes "x run --top t --clock c d s --define="
    ∷ codes "x run --top t --clock c d s --define ="
    ∷ codes "x run --top t --clock c d s --define =4"
    ∷ codes "x run --top t --clock c d s --define 4"
    ∷ codes "x run --top t --clock c d s --define $w=4"
    ∷ codes "x run --top t --clock c d s --define w.x=4"
    ∷ codes "x run --top t --clock c d s --define=-w"
    ∷ codes "x run --top t --clock c d s --define w=\\w"
    ∷ codes "x run --top t --clock c d s --define w=\t"
    ∷ codes "x run --top t --clock c d s --define w=4/*"
    ∷ codes "x run --top t --clock c d s --define w=//*/"
    ∷ codes "x run --top t --clock c d s --defines w"
    ∷ codes "x run --top t --clock c d s --with"
    ∷ codes "x run --top t --clock c d --with s"
    ∷ codes "x run --top t --clock c d s --with -e"
    ∷ codes "x run --top t --clock c d s --with=-e"
    ∷ codes "x run --top t --clock c d s --with -- e"
    ∷ codes "x run --top t --clock c d s --withs e"
    ∷ codes "x run --share --top t --clock c d s --share"
    ∷ codes "x run --share=1 --top t --clock c d s"
    ∷ codes "x run --share= --top t --clock c d s"
    ∷ codes "x run --shar --top t --clock c d s"
    ∷ codes "x run --top --share --clock c d s"
    ∷ codes "x --share run --top t --clock c d s"
    ∷ codes "x check --share --top t --clock c d s"
    ∷ codes "x check --top t --clock c d s --share"
    ∷ codes "x queue"
    ∷ codes "x queue --top t --clock c d s"
    ∷ codes "x queue --order 7 --top t --clock c"
    ∷ codes "x queue --order 7 --top t --clock c d"
    ∷ codes "x queue --order 7 --top t --clock c d s u"
    ∷ codes "x queue --order 7 --order 7 --top t --clock c d s"
    ∷ codes "x queue --order=7 --top t --clock c d s --order=8"
    ∷ codes "x queue --top t --clock c d s --order"
    ∷ codes "x queue --order= --top t --clock c d s"
    ∷ codes "x queue --order 18446744073709551616 --top t --clock c d s"
    ∷ codes "x queue --order 00 --top t --clock c d s"
    ∷ codes "x queue --order=07 --top t --clock c d s"
    ∷ codes "x queue --order -1 --top t --clock c d s"
    ∷ codes "x queue --order=-1 --top t --clock c d s"
    ∷ codes "x queue --order=+1 --top t --clock c d s"
    ∷ codes "x queue --order 0x7 --top t --clock c d s"
    ∷ codes "x queue --orders 7 --top t --clock c d s"
    ∷ codes "x queue --share --order 7 --top t --clock c d s"
    ∷ codes "x queue --order 7 --top t --clock c d s --share"
    ∷ codes "x queues --order 7 --top t --clock c d s"
    ∷ codes "x --order 7 queue --top t --clock c d s"
    ∷ codes "x run --order 7 --top t --clock c d s"
    ∷ codes "x run --top t --clock c d s --order=0"
    ∷ codes "x check --order 7 --top t --clock c d s"
    ∷ codes "x check --top t --clock c d s --order=0"
    ∷ codes "x bench --order 7"
    ∷ codes "x bench --share 1"
    ∷ codes "x bench --with e 1"
    ∷ codes "x bench"
    ∷ codes "x bench 0"
    ∷ codes "x bench 1001"
    ∷ codes "x bench 01"
    ∷ codes "x bench 1 257"
    ∷ codes "x bench 1 0"
    ∷ codes "x bench +1"
    ∷ codes "x bench 1 2 3"
    ∷ codes "x bench -- 1"
    ∷ codes "x bench x"
    ∷ []

abbrev pub rows : List Row
rows = jobs ++ benches ++ map of_none broken
