-- The laws of scopes without a fault.
use Rattle.std.proofs.Common.{◌≡◌, ◌+◌, ◌≤◌, ℕ, true, false, List, [], ◌∷◌, Option, Some, None, refl, arith}
use Rattle.vs_design.specs.Designs.{Design}
use Rattle.vs_grammar.specs.Trees.{Source}
use Rattle.vs_grammar.specs.Shapes.{Each}
use Rattle.vs_grammar.specs.Depths.{deepest, item_depth}
use Rattle.vs_elaborated.specs.Limits.{Limits}
use Rattle.vs_elaborated.specs.Environments.{Declared, Later, OfSignal, OfParameter, OfGenvar, OfInteger, OfFunction, OfScope, Entry, find_entry}
use Rattle.vs_elaborated.specs.Generate.{Nested, Made}
use Rattle.vs_elaborated.specs.Constructs.{constructs}
use Rattle.vs_elaborated.specs.Pieces.{Task, Connection, IntoInput, FromOutput, Piece, Own, OfScopes, Initially, Instance, Within}
use Rattle.vs_elaborated.specs.Instances.{connection_name, instance_said}
use Rattle.vs_elaborated.specs.Surveys.{Totals, survey, declarations_of}
use Rattle.vs_elaborated.specs.Sound.{AreSoundEntries, IsShapedContents, MeansSignal, HasPorts, FunctionsAreFormed, FunctionsSeeSound, FaultlessIsFair, SignalsAreCounted, PortsAreSignals, BlocksAreLower, OverridesAreFine, InstancesHavePorts}
use Rattle.vs_elaborated.proofs.NumberedSignals.{said_counted, good_survey}
use Rattle.vs_elaborated.proofs.SurveyParts.{names_in, ranged_in, start_in}
use Rattle.vs_elaborated.proofs.FormedFunctions.{function_formed, function_sees}
use Rattle.vs_elaborated.proofs.SurveyNames.{survey_functions, survey_names}
use Rattle.vs_elaborated.proofs.FinePieces.{overrides_fine, survey_pieces}
use Rattle.vs_elaborated.proofs.LowBlocks.{AreLower, constructs_lower}
use Rattle.vs_elaborated.proofs.FirstNames.{IsDeclaredWith, IsSignalWith}
use Rattle.vs_elaborated.proofs.PortNames.{IsDirected, IsDirectedPiece, known_directed, survey_directed}
use Rattle.vs_elaborated.proofs.PortsFormed.{AnyMeaning, WithIn, entry_in, port_signal, survey_signals}

pub faultless_fair : FaultlessIsFair
faultless_fair d limits source t totals m s b i h = record {
  names = survey_names d limits source t totals s.frames s.overrides s.shaped b i h;
  functions = (survey_functions d limits source t totals s.frames s.overrides s.shaped b i h).functions;
  pieces = survey_pieces d limits source t totals m s b i h;
  bits = λ c. omega (arith, (survey_signals d limits source t totals s c h).bits, (good_survey limits source t totals).bits);
}

pub functions_are_formed : FunctionsAreFormed
functions_are_formed d number most scope env f s x b h = function_formed d number most scope env f s x b h

pub functions_see_sound : FunctionsSeeSound
functions_see_sound d number most scope env f s x b h = function_sees d number most scope env f s x b h

-- ---- signals

pub signals_counted : SignalsAreCounted
signals_counted limits source t totals = said_counted (ranged_in t totals) (names_in t) (start_in t totals)

-- ---- ports

means : (d : Design) (es : List Entry) (name : List ℕ) (o : Option Entry) → find_entry es name ≡ o → IsSignalWith (WithIn d AnyMeaning) o → MeansSignal d es name
means d es name None e h = absurd h
means d es name (Some x) e h = of x.name x.place x.declared e h
  where
    of : (n : List ℕ) (p : ℕ) (y : Declared) → find_entry es name ≡ Some (record { name = n; place = p; declared = y }) → IsDeclaredWith (WithIn d AnyMeaning) y → MeansSignal d es name
    of n p Later e k = absurd k
    of n p (OfSignal m) e k = record { entry = record { name = n; place = p; declared = OfSignal m }; meaning = m; found = e; declared = refl; there = k.0 }
    of n p (OfParameter v r) e k = absurd k
    of n p OfGenvar e k = absurd k
    of n p (OfInteger owner) e k = absurd k
    of n p (OfFunction f) e k = absurd k
    of n p OfScope e k = absurd k

port_means : (d : Design) (limits : Limits) (source : Source) (k : Task) (t : Totals) → IsShapedContents k.contents → (survey limits source k t).faults ≡ [] → AreSoundEntries d false (survey limits source k t).entries
    → (c : Connection) → IsDirected (declarations_of k.contents) c → MeansSignal d (survey limits source k t).entries (connection_name c)
port_means d limits source k t x h s (IntoInput name e) g =
    means d (survey limits source k t).entries name (find_entry (survey limits source k t).entries name) refl (entry_in d AnyMeaning (survey limits source k t).entries name s (port_signal true name limits source k t x g h))
port_means d limits source k t x h s (FromOutput name place target) g =
    means d (survey limits source k t).entries name (find_entry (survey limits source k t).entries name) refl (entry_in d AnyMeaning (survey limits source k t).entries name s (port_signal false name limits source k t x g h))

ports_mean : (d : Design) (limits : Limits) (source : Source) (k : Task) (t : Totals) → IsShapedContents k.contents → (survey limits source k t).faults ≡ [] → AreSoundEntries d false (survey limits source k t).entries
    → (cs : List Connection) → Each (IsDirected (declarations_of k.contents)) cs → Each (λ (c : Connection). MeansSignal d (survey limits source k t).entries (connection_name c)) cs
ports_mean d limits source k t x h s [] g = tt
ports_mean d limits source k t x h s (c ∷ cs) g = (port_means d limits source k t x h s c g.0, ports_mean d limits source k t x h s cs g.1)

piece_ports : (d : Design) (limits : Limits) (source : Source) (p : Piece) → IsDirectedPiece p → HasPorts d limits source p
piece_ports d limits source (Own p) g = tt
piece_ports d limits source (OfScopes b) g = tt
piece_ports d limits source (Initially place statement) g = tt
piece_ports d limits source (Instance cs k) g = λ totals x h s. ports_mean d limits source k totals x h s cs g
piece_ports d limits source (Within k) g = tt

pieces_ports : (d : Design) (limits : Limits) (source : Source) (ps : List Piece) → Each IsDirectedPiece ps → Each (HasPorts d limits source) ps
pieces_ports d limits source [] g = tt
pieces_ports d limits source (p ∷ ps) g = (piece_ports d limits source p g.0, pieces_ports d limits source ps g.1)

pub ports_signals : PortsAreSignals
ports_signals d limits source t totals = pieces_ports d limits source (survey limits source t totals).pieces (survey_directed limits source t totals)

-- ---- instances by themselves

pub overrides_are_fine : OverridesAreFine
overrides_are_fine d env of m c s x h = overrides_fine d env s of m c x h

pub instances_have_ports : InstancesHavePorts
instances_have_ports d limits source around place m os i = pieces_ports d limits source (instance_said around place m os i).pieces (known_directed around place m os i)

-- ---- blocks

lower_blocks : (most : ℕ) (bs : List Nested) → AreLower most bs → Each (λ (b : Nested). deepest item_depth b.items + 1 ≤ most) bs
lower_blocks most [] x = tt
lower_blocks most (b ∷ bs) x = (omega (arith, x.0), lower_blocks most bs x.1)

lower_made : (most : ℕ) (ms : List Made) → Each (λ (m : Made). AreLower most m.blocks) ms → Each (λ (m : Made). Each (λ (b : Nested). deepest item_depth b.items + 1 ≤ most) m.blocks) ms
lower_made most [] x = tt
lower_made most (m ∷ ms) x = (lower_blocks most m.blocks x.0, lower_made most ms x.1)

pub blocks_lower : BlocksAreLower
blocks_lower most limits items env n total h = lower_made most (constructs limits items env n total) (constructs_lower most limits items env n total h)
