-- The header that the code reads and writes, as a value of the definitions.
use Rattle.kfs_image.specs.declared.codec.header.ImageHeader.{ImageHeader as CodeImageHeader}
use Rattle.kfs_model.specs.Device.Spelling.{ImageHeader}

abbrev pub image_header_of : CodeImageHeader → ImageHeader
image_header_of h = record { version = h.version; sizes = h.sizes; nodes = h.nodes; names = h.names; extents = h.extents }
