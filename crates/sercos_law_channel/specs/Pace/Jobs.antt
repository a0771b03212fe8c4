-- What the requests of a start-up cost, and those after it. Each list has its newest item first, but for lists of requests.
use Rattle.std.specs.Prelude.{◌≡◌, ℕ, ◌+◌, ◌*◌, ◌≤◌, true, List, [], ◌∷◌, ◌++◌, length, map, Some}
use Rattle.std.specs.List.{sum_by}
use Rattle.sercos_idn.specs.Codes.{is_list}
use Rattle.sercos_idn.specs.Elements.{attribute_element, data_element}
use Rattle.sercos_idn.specs.declared.idn.Idn.{Idn}
use Rattle.sercos_idn.specs.declared.kinds.Length.TheVariants as len
use Rattle.sercos_step.specs.declared.request.Request.{Request}
use Rattle.sercos_step.specs.declared.request.Request.TheVariants as request
use Rattle.sercos_block.specs.declared.block.Block.{Block}
use Rattle.sercos_block.specs.Stores.{find_block}
use Rattle.sercos_block.specs.Startup.{attribute_steps, list_steps, read_steps, request_steps, word_steps, write_steps}
use Rattle.sercos_service_master.specs.Begun.{Begun}
use Rattle.sercos_law_channel.specs.Pace.Costs.{cost_of, cost_in}

-- The cost of all that were begun is the sum over the requests.
abbrev pub request_of : Begun → Request
request_of b = b.request

abbrev pub CostsRequests : Type 0
CostsRequests = (cost : Request → ℕ) (begun : List Begun) → cost_in cost begun ≡ sum_by cost (map request_of begun)

-- The drive has the block, and its operation data is one word.
abbrev pub IsWord : List Block → Idn → Type 0
IsWord blocks idn = (b : Block) × (find_block idn.raw blocks ≡ Some b) × (b.attribute.length ≡ len.Two)

abbrev pub AreWords : List Block → List Idn → Type 0
AreWords blocks [] = Unit {0}
AreWords blocks (idn ∷ idns) = AreWords blocks idns × IsWord blocks idn

-- The drive has the block, and its operation data is a list.
abbrev pub IsListBlock : List Block → Idn → Type 0
IsListBlock blocks idn = (b : Block) × (find_block idn.raw blocks ≡ Some b) × (is_list b.attribute.length ≡ true)

-- A read of one word costs four steps, of an attribute three, and of a list five and one for each of its words.
abbrev pub WordReadCosts : ℕ → Type 0
WordReadCosts busy = (time : ℕ) (longest : ℕ → ℕ) (blocks : List Block) (idn : Idn) → IsWord blocks idn →
    cost_of busy time longest blocks (request.Read idn data_element) ≡ (busy + 1) * word_steps

abbrev pub AttributeCosts : ℕ → Type 0
AttributeCosts busy = (time : ℕ) (longest : ℕ → ℕ) (blocks : List Block) (idn : Idn) →
    cost_of busy time longest blocks (request.Read idn attribute_element) ≤ (busy + 1) * attribute_steps

abbrev pub ListReadCosts : ℕ → Type 0
ListReadCosts busy = (time : ℕ) (longest : ℕ → ℕ) (blocks : List Block) (idn : Idn) → IsListBlock blocks idn →
    cost_of busy time longest blocks (request.Read idn data_element) ≡ (busy + 1) * (list_steps + longest idn.raw)

-- A write of one word costs four steps, and of a list of k words five and k.
abbrev pub WordWriteCosts : ℕ → Type 0
WordWriteCosts busy = (time : ℕ) (longest : ℕ → ℕ) (blocks : List Block) (idn : Idn) (bytes : List ℕ) → IsWord blocks idn →
    length bytes ≤ 2 → cost_of busy time longest blocks (request.Write idn data_element bytes) ≤ (busy + 1) * word_steps

abbrev pub ListWriteCosts : ℕ → Type 0
ListWriteCosts busy = (time : ℕ) (longest : ℕ → ℕ) (blocks : List Block) (idn : Idn) (bytes : List ℕ) (k : ℕ) → IsListBlock blocks idn →
    length bytes ≤ 2 * k → cost_of busy time longest blocks (request.Write idn data_element bytes) ≤ (busy + 1) * (list_steps + k)

-- The reads of phase 2: six values of a word, and the attribute of each identifier number of both lists.
abbrev pub reads_of : List Idn → List Idn → List Request
reads_of values idns = map (λ (idn : Idn). request.Read idn data_element) values ++
    map (λ (idn : Idn). request.Read idn attribute_element) idns

abbrev pub ReadsCost : ℕ → Type 0
ReadsCost busy = (time : ℕ) (longest : ℕ → ℕ) (blocks : List Block) (values idns : List Idn) → AreWords blocks values → length values ≡ 6 →
    sum_by (cost_of busy time longest blocks) (reads_of values idns) ≤ (busy + 1) * (read_steps + attribute_steps * length idns)

-- Writes of one word each: at most two bytes to operation data of one word.
pub record IsWordWrite (blocks : List Block) (r : Request) : Type 0 where
  pub idn : Idn
  pub bytes : List ℕ
  pub writes : r ≡ request.Write idn data_element bytes
  pub word : IsWord blocks idn
  pub short : length bytes ≤ 2

abbrev pub AreWordWrites : List Block → List Request → Type 0
AreWordWrites blocks [] = Unit {0}
AreWordWrites blocks (r ∷ rs) = AreWordWrites blocks rs × IsWordWrite blocks r

-- The writes of phase 2 and its command: nine of a word, some before and the others after the two lists, which have k and m words.
abbrev pub WritesCost : ℕ → Type 0
WritesCost busy = (time : ℕ) (longest : ℕ → ℕ) (blocks : List Block) (before after : List Request) (ats mdts : Idn)
    (at_bytes mdt_bytes : List ℕ) (k m : ℕ) (command : Idn) →
    AreWordWrites blocks before → AreWordWrites blocks after → length before + length after ≡ 9 → IsListBlock blocks ats →
    IsListBlock blocks mdts → length at_bytes ≤ 2 * k → length mdt_bytes ≤ 2 * m →
    sum_by (cost_of busy time longest blocks) (before ++ request.Write ats data_element at_bytes ∷
    request.Write mdts data_element mdt_bytes ∷ (after ++ request.Command command ∷ [])) ≤ (busy + 1) * (write_steps + (k + m)) + time

-- Any request with at most 1,024 bytes costs no more than this profile allows a request.
abbrev pub IsShort : Request → Type 0
IsShort (request.Read idn e) = Unit {0}
IsShort (request.Write idn e bytes) = length bytes ≤ 1024
IsShort (request.Command idn) = Unit {0}

abbrev pub RequestCosts : ℕ → Type 0
RequestCosts busy = (time : ℕ) (longest : ℕ → ℕ) (blocks : List Block) (r : Request) → ((raw : ℕ) → longest raw ≤ 512) → IsShort r →
    cost_of busy time longest blocks r ≤ (busy + 2) * (request_steps + time)
