-- What is made stays made as interfaces and definitions grow. Serves read.
use Rattle.std.proofs.Common.{ℕ, List}
use Rattle.wit_model.specs.Text.{Text}
use Rattle.wit_model.specs.declared.model.{TypeDef.TypeDef, TypeId.TypeId, InterfaceId.InterfaceId, Interface.Interface, World.World}
use Rattle.print_grammar.specs.Tree.{PathTree, MemberTree}
use Rattle.text_names.specs.declared.sources.{InterfaceSource.InterfaceSource, Sources.Sources, WorldSource.WorldSource}
use Rattle.text_types.specs.declared.members.Interfaces.{Interfaces}
use Rattle.text_types.specs.{Begins.Begins, Targets.IsMade, Targets.TargetIn}
use Rattle.text_types.proofs.{Growth.begins_join, Growth.entry_stays, MadeLaws.members_carried}
use Rattle.text_shown.specs.ShowsWorlds.{Stated}
use Rattle.wit_text.specs.MadeInterfaces.{AreAllMade, GrowsInterfaces, InlineIn, IsEachMade, IsInlineMade, IsInterfaceMade, UsedIn}
use Rattle.wit_text.specs.MadeWorlds.{IsWorldMade, PathIn, StatedIn}
use Rattle.wit_text.specs.Items.{WorldEntry}
use Rattle.wit_text.proofs.ExternLaws.{exports_carried, extern_carried, imports_carried}

pub interfaces_join : {a b c : Interfaces} → GrowsInterfaces a b → GrowsInterfaces b c → GrowsInterfaces a c
interfaces_join h k = record { list = begins_join h.list k.list; numbers = λ n made e. k.numbers n made (h.numbers n made e) }

module _ {old new : Interfaces} (g : GrowsInterfaces old new) where
  pub made_stays : {n made : ℕ} {interface : Interface} → IsMade old n made interface → IsMade new n made interface
  made_stays {n = n} {made = made} {interface = interface} k =
      record { number = g.numbers n made k.number; stands = entry_stays made interface g.list k.stands }

module _ (s : Sources) {old new : Interfaces} (g : GrowsInterfaces old new) (home : ℕ) where
  pub target_carried : (path : PathTree) (name : Text) (id : TypeId) → TargetIn s old home path name id → TargetIn s new home path name id
  target_carried path name id k = record {
    number = k.number;
    means = k.means;
    has = record { made = k.has.made; interface = k.has.interface; is = made_stays g k.has.is; has = k.has.has };
  }

  pub used_carried : (number : ℕ) (path : PathTree) (name : Text) (id : TypeId) → UsedIn s old home number path name id
      → UsedIn s new home number path name id
  unfolding target_carried
  used_carried number path name id k = record { is = target_carried path name id k.is; before = k.before }

  pub path_carried : (path : PathTree) (id : InterfaceId) → PathIn s old home path id → PathIn s new home path id
  path_carried path id k = record { number = k.number; means = k.means; made = g.numbers k.number id.0 k.made }

  module _ {defs more : List TypeDef} (h : Begins defs more) where
    pub inline_made_carried : {members : List MemberTree} {number : ℕ} {made : Interface} → IsInlineMade s old defs home members number made
        → IsInlineMade s new more home members number made
    inline_made_carried k = record {
      unnamed = k.unnamed;
      home_is = k.home_is;
      gates = k.gates;
      docs = k.docs;
      has = members_carried h target_carried k.has;
    }

    pub inline_carried : (members : List MemberTree) (id : InterfaceId) → InlineIn s old defs home members id → InlineIn s new more home members id
    inline_carried members id k = record { made = k.made; there = entry_stays id.0 k.made g.list k.there; is = inline_made_carried k.is }

    pub stated_carried : (one : Stated) (entry : WorldEntry) → StatedIn s old defs home one entry → StatedIn s new more home one entry
    stated_carried one entry k = extern_carried h path_carried inline_carried k

module _ (s : Sources) {old new : Interfaces} (g : GrowsInterfaces old new) {defs more : List TypeDef} (h : Begins defs more) where
  pub interface_carried : {source : InterfaceSource} {number : ℕ} {made : Interface} → IsInterfaceMade s old defs source number made
      → IsInterfaceMade s new more source number made
  interface_carried {source = source} {number = number} k = record {
    named = k.named;
    home = k.home;
    gates = k.gates;
    docs = k.docs;
    members = members_carried h (used_carried s g source.«package» number) k.members;
  }

  pub each_carried : {n : ℕ} {source : InterfaceSource} → IsEachMade s old defs n source → IsEachMade s new more n source
  each_carried k = record { number = k.number; made = k.made; is = made_stays g k.is; stands = interface_carried k.stands }

  pub all_carried : AreAllMade s old defs → AreAllMade s new more
  all_carried k n source is = each_carried (k n source is)

  pub world_carried : {source : WorldSource} {number : ℕ} {made : World} → IsWorldMade s old defs source number made → IsWorldMade s new more source number made
  world_carried {source = source} k = record {
    named = k.named;
    home = k.home;
    gates = k.gates;
    docs = k.docs;
    imports = imports_carried h (target_carried s g source.«package») (stated_carried s g source.«package» h) k.imports;
    exports = exports_carried (stated_carried s g source.«package» h) k.exports;
  }
